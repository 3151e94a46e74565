-- What a number system answers, over all whole numbers.
use Rattle.std.specs.Prelude.{◌≡◌, ℤ, int_rem}
use Rattle.ring.specs.Elem.{Elem, 𝟘}
use Rattle.ring.specs.System.{System, mul}
use Rattle.ring.specs.Class.{Even}

-- r is the element whose product with the base is a, and 0 where there is none
pub record Quotient (s : System) (a r : Elem) : Type 0 where
  pub divided : Even s a → mul s s.β r ≡ a
  pub undivided : (Even s a → ⊥) → r ≡ 𝟘

-- the remainders of both coordinates, towards 0
abbrev pub rests : Elem → ℤ → Elem
rests a divisor = record { x = int_rem a.x divisor; y = int_rem a.y divisor }
