-- What putting a digit and taking one away answer.
use Rattle.std.specs.Prelude.{◌≡◌, ℕ, ◌<◌, ◌≤◌, List, [], ◌∷◌, ◌++◌, length, slice_index_or}
use Rattle.std.specs.List.{ContainsAt as Has, remove}
use Rattle.ring.specs.Elem.{Elem, 𝟘}
use Rattle.ring.specs.System.{System}
use Rattle.ring.specs.Class.{Even, InRange, Classed}
use Rattle.refusals.specs.declared.Refusal.{Refusal}
use Rattle.refusals.specs.declared.Refusal.TheVariants as why
use Rattle.refusals.specs.Rows.{Row, row, Uppermost, Unfit}
use Rattle.sets.specs.declared.table.DigitSet.{DigitSet}
use Rattle.sets.specs.Held.{held, width_of}

-- the table is full. A width that a system serves has at most 128 classes, so there a full table of different classes has every class and this row is never told
abbrev pub Crowded : List Elem → Type 0
Crowded ds = 128 ≤ length ds

-- why z is not put among the digits ds at width w, uppermost first
abbrev pub put_rows : System → ℕ → List Elem → Elem → List Row
put_rows s w ds z = row (¬ (InRange z)) why.Range ∷ row (Even s z) why.Even ∷ row (Classed s w (Has ds) z) why.Doubled ∷ row (Crowded ds) why.Doubled ∷ []

-- e is why z is not put; shut, so that callers pass it on whole
unfoldable pub Unput : System → ℕ → List Elem → Elem → Refusal → Type 0
Unput s w ds z e = Uppermost (put_rows s w ds z) e

-- nothing speaks against putting z
unfoldable pub Puttable : System → ℕ → List Elem → Elem → Type 0
Puttable s w ds z = Unfit (put_rows s w ds z)

-- z is added at the end, and n is the number held
pub record Added (before after : DigitSet) (z : Elem) (n : ℕ) : Type 0 where
  pub more : held after ≡ held before ++ z ∷ []
  pub width : width_of after ≡ width_of before
  pub number : n ≡ length (held after)

-- z is taken from its place, the others keep their order, and n is the number held
pub record Taken (before after : DigitSet) (z : Elem) (n : ℕ) : Type 0 where
  pub place : ℕ
  pub within : place < length (held before)
  pub stands : slice_index_or (held before) place 𝟘 ≡ z
  pub less : held after ≡ remove (held before) place
  pub width : width_of after ≡ width_of before
  pub number : n ≡ length (held after)
