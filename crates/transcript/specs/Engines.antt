-- The system and the residue engine that a first line chooses.
use Rattle.std.specs.Prelude.{ℕ, List, [], ◌∷◌, pos}
use Rattle.refusals.specs.Rows.{Row, row}
use Rattle.refusals.specs.declared.Refusal.TheVariants as refusal
use Rattle.numbers.specs.Kinds.{long_loading, long_working}
use Rattle.systems.specs.Named.{kp, km, g5, theta_widest, g5_widest}
use Rattle.engine.specs.Meaning.{Meaning}
use Rattle.engine.specs.declared.Point.{Point}
use Rattle.residue.specs.Residue.{residue, Modulus, Root}
use Rattle.rules.specs.Views.{Setting, setting}
use Rattle.sheet.specs.declared.line.System.{System}
use Rattle.sheet.specs.declared.line.System.TheVariants.{Kp, Km, G5}

-- a system by its name, with the limits of long coordinates
abbrev pub setting_of : System → Setting
setting_of Kp = setting kp theta_widest long_loading long_working
setting_of Km = setting km theta_widest long_loading long_working
setting_of G5 = setting g5 g5_widest long_loading long_working

-- what a residue engine over the system means, with modulus m, root r and start g
abbrev pub engine_of : Setting → ℕ → ℕ → ℕ → Meaning Point
engine_of k m r g = residue k.ring.t k.ring.n (pos m) (pos r) (pos g)

-- why that engine is refused, the uppermost first
abbrev pub engine_rows : Setting → ℕ → ℕ → ℕ → List Row
engine_rows k m r g =
    row (¬ (Modulus (pos m))) refusal.Modulus
    ∷ row (¬ (Root k.ring.t k.ring.n (pos m) (pos r) (pos g))) refusal.Root
    ∷ []
