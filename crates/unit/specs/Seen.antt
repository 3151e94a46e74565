-- What a unit of the code stands for, and what it is over.
use Rattle.std.specs.Prelude.{ℤ}
use Rattle.numbers.specs.Meaning.{meaning}
use Rattle.sets.specs.Held.{held, width_of}
use Rattle.rules.specs.Views.{View}
pub use Rattle.rules.specs.Views.{setting}
use Rattle.unit.specs.declared.unit.Unit as declared

-- the unit as it is told, where a coordinate stands for the number `value` of it
abbrev pub view : {S E K : Type 0} → (K → ℤ) → declared.Unit S E K → View E
view value u = record { width = width_of u.set; digits = held u.set; standing = u.standing; ticks = u.ticks; remainder = meaning value u.remainder; verdict = u.verdict; engine = u.engine }
