-- Why a call is refused: the rows that can fit it, the uppermost first.
use Rattle.std.specs.Prelude.{◌≡◌, ℕ, ◌<◌, ◌⊎◌, List, [], ◌∷◌}
use Rattle.ring.specs.Elem.{Elem, Below}
use Rattle.ring.specs.System.{System}
use Rattle.ring.specs.Class.{Even, InRange, Full}
use Rattle.refusals.specs.declared.Refusal.TheVariants as refusal
pub use Rattle.refusals.specs.Rows.{Row, row, Uppermost, Unfit}
pub use Rattle.ring.specs.Class.{Classed}
use Rattle.numbers.specs.Meaning.{short}
use Rattle.engine.specs.Meaning.{elem}
use Rattle.rules.specs.Views.{Setting, EngineRing}
use Rattle.rules.specs.declared.calls.Standing.{Standing}
use Rattle.rules.specs.declared.calls.Standing.TheVariants.{Draft, Barred, Running}
use Rattle.rules.specs.declared.calls.Call.{Call}
use Rattle.rules.specs.declared.calls.Call.TheVariants.{Width, Put, Take, Check, Load, Tick, Abandon}

-- the engine's t and n are the system's
abbrev pub Matches : System → EngineRing → Type 0
Matches s m = (m.t ≡ s.t) × (m.n ≡ s.n)

-- the rows for a call on a unit that stands at s, with the width w and the digits S; m is its engine's ring
module _ (k : Setting) (m : EngineRing) (w : ℕ) (S : Elem → Type 0) (s : Standing) where
  abbrev pub rows : Call → List Row
  rows (Width n) = row (s ≡ Running) refusal.Busy ∷ row ((n ≡ 0) ⊎ (k.widest < n)) refusal.Width ∷ []
  rows (Put x y) =
      row (s ≡ Running) refusal.Busy
      ∷ row (¬ (InRange (elem x y))) refusal.Range
      ∷ row (Even k.ring (elem x y)) refusal.Even
      ∷ row (Classed k.ring w S (elem x y)) refusal.Doubled
      ∷ []
  rows (Take x y) = row (s ≡ Running) refusal.Busy ∷ row (¬ (S (elem x y))) refusal.Absent ∷ []
  rows Check = row (s ≡ Running) refusal.Busy ∷ row (¬ (Full k.ring w S)) refusal.Open ∷ []
  rows (Load z) =
      row (s ≡ Running) refusal.Busy
      ∷ row ((s ≡ Draft) ⊎ (s ≡ Barred)) refusal.Uncleared
      ∷ row (¬ (Matches k.ring m)) refusal.Ring
      ∷ row (¬ (Below k.loading (short z))) refusal.Long
      ∷ []
  rows Tick = row (¬ (s ≡ Running)) refusal.Idle ∷ []
  rows Abandon = row (¬ (s ≡ Running)) refusal.Idle ∷ []
