-- What the making of a residue engine answers.
use Rattle.std.specs.Prelude.{◌≡◌, ◌⊎◌, ℤ, pos, Ok, Err, Result}
use Rattle.refusals.specs.declared.Refusal.{Refusal}
use Rattle.refusals.specs.declared.Refusal.TheVariants as refusal
use Rattle.engine.specs.Meaning.{Meaning, Machine}
use Rattle.engine.specs.declared.Point.{Point}
use Rattle.residue.specs.Residue.{at, residue, Modulus, Root}
use Rattle.residue.specs.declared.ResidueEngine.{ResidueEngine}

abbrev pub meaning_of : ResidueEngine → Meaning Point
meaning_of e = residue e.ring.t e.ring.n (pos e.residues.modulus) (pos e.root) (pos e.start)

-- residue engines, with what each means, its total and its current point
abbrev pub residue_machine : Machine ResidueEngine Point
residue_machine = record { meaning = meaning_of; total_of = λ e. at (pos e.total); current_of = λ e. at (pos e.current) }

-- an engine of these numbers, its total zero and its current point the start point
abbrev pub Restarted : ℤ → ℤ → ℤ → ℤ → ℤ → ResidueEngine → Type 0
Restarted t n m r g e = (meaning_of e ≡ residue t n m r g) × (at (pos e.total) ≡ at (pos 0)) × (at (pos e.current) ≡ at g)

-- Modulus (12) exactly where m is out of range, else Root (13) exactly where the rest does not fit, else an engine
abbrev pub Made : ℤ → ℤ → ℤ → ℤ → ℤ → Result ResidueEngine Refusal → Type 0
Made t n m r g (Ok e) = Modulus m × Root t n m r g × Restarted t n m r g e
Made t n m r g (Err e) = ((e ≡ refusal.Modulus) × ¬ Modulus m) ⊎ ((e ≡ refusal.Root) × Modulus m × ¬ Root t n m r g)
