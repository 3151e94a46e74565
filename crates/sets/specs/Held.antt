-- What a set holds.
use Rattle.std.specs.Prelude.{ℕ, List, take}
use Rattle.ring.specs.Elem.{Elem}
use Rattle.digits.specs.Digits.{elems}
use Rattle.sets.specs.declared.table.DigitSet as declared

-- the elements, in the order held
abbrev pub held : declared.DigitSet → List Elem
held s = elems (take s.count s.table)

-- the width
abbrev pub width_of : declared.DigitSet → ℕ
width_of s = s.width.places
