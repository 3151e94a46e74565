-- The remainder of a step over a list of digits, as a function of the element.
use Rattle.std.specs.Prelude.{◌≡◌, ℕ, ◌≤◌, List}
use Rattle.ring.specs.Elem.{Elem, 𝟘}
use Rattle.ring.specs.System.{System, Lawful, size}
use Rattle.digits.specs.Digits.{elems}
use Rattle.digits.specs.declared.digit.Digit.{Digit}
use Rattle.verdict.specs.Remainders.{remainder, remainder_is, is_small, is_zero}

module _ (s : System) (g : Lawful s) (w : ℕ) (wide : 1 ≤ w) where
  -- z/β where β divides z, else (z − d)/β with the first digit d of z's class, else 0
  abbrev pub next : List Elem → Elem → Elem
  next ds z = remainder s g w wide ds z

  -- it does not leave the elements of norm at most 6·260100
  pub closed : (ds : List Digit) (z : Elem) → size s z ≤ 1560600 → size s (next (elems ds) z) ≤ 1560600
  closed ds z h = is_small s g w wide ds z (next (elems ds) z) h (remainder_is s g w wide (elems ds) z)

  pub rests : (ds : List Elem) → next ds 𝟘 ≡ 𝟘
  rests ds = is_zero s g w wide ds (next ds 𝟘) (remainder_is s g w wide ds 𝟘)
