-- What the traits show of a unit's numbers.
use Rattle.std.proofs.Common.{ℕ, ◌*◌, ◌^◌, ◌≤◌}
use Rattle.ring.specs.System.{System, Lawful, Widths}
use Rattle.rules.specs.Theorems.{Sound}
use Rattle.rules.specs.Views.{setting}

pub sound : (s : System) (widest loading working : ℕ) → Lawful s → Widths s.p widest → (1024 ≤ loading) × (16 * loading ≤ working) × (2 ^ 28 ≤ working) × (loading ≤ 2 ^ 56) → Sound (setting s widest loading working)
sound s widest loading working law wide limits = record { lawful = law; widths = wide; enough = limits.0; room = limits.1; countable = limits.3 }
