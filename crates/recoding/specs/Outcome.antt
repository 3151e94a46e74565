-- What a recoding into a list of entries answers and leaves.
use Rattle.std.specs.Prelude.{◌≡◌, ℕ, ◌≤◌, ◌≢◌, List, length, take, drop, ℤ, Ok, Err, Result}
use Rattle.std.specs.List.{ContainsAt as Has}
use Rattle.ring.specs.Elem.{Elem, 𝟘}
use Rattle.ring.specs.System.{System}
use Rattle.ring.specs.Expansion.{Expands}
use Rattle.digits.specs.Digits.{AllOdd}
use Rattle.digits.specs.Stepping.{Stuck}
use Rattle.recoding.specs.Walk.{digits_of, Leads}
use Rattle.recoding.specs.declared.entry.Entry.{Entry}
use Rattle.recoding.specs.declared.entry.Unexpanded.{Unexpanded}
use Rattle.recoding.specs.declared.entry.Unexpanded.TheVariants.{Even as EvenDigit, Stuck as StuckAt, Spent}

module _ {C : Type 0} (value : C → ℤ) (s : System) (limit w : ℕ) (ds : List Elem) (z : Elem) (before after : List (Entry C)) where
  -- the first n entries are written, and no other
  abbrev pub Wrote : ℕ → Elem → Type 0
  Wrote n r = (n ≤ length after) × Leads value s w ds z (take n after) r × (drop n after ≡ drop n before)

  -- Ok: the digits of the first n entries are z's expansion. Else β divides a digit and nothing is written;
  -- or after n steps none can be taken; or all entries are written and the remainder is not 0
  abbrev pub Outcome : Result ℕ Unexpanded → Type 0
  Outcome (Ok n) = Wrote n 𝟘 × Expands s w (Has ds) z (digits_of (take n after))
  Outcome (Err EvenDigit) = (¬ (AllOdd s ds)) × (after ≡ before)
  Outcome (Err (StuckAt n)) = (r : Elem) × Wrote n r × Stuck s limit w ds r
  Outcome (Err Spent) = (r : Elem) × Wrote (length after) r × (r ≢ 𝟘)
