-- The elements that digits stand for.
use Rattle.std.specs.Prelude.{ℕ, ◌<◌, List, map, length, slice_index_or}
use Rattle.ring.specs.Elem.{Elem, 𝟘}
use Rattle.ring.specs.System.{System}
use Rattle.ring.specs.Class.{Even}
use Rattle.numbers.specs.Meaning.{short}
use Rattle.digits.specs.declared.digit.Digit.{Digit}

abbrev pub elem_of : Digit → Elem
elem_of d = short d.element

abbrev pub elems : List Digit → List Elem
elems ds = map elem_of ds

-- β divides none of them
abbrev pub AllOdd : System → List Elem → Type 0
AllOdd s ds = (k : ℕ) → k < length ds → ¬ (Even s (slice_index_or ds k 𝟘))
