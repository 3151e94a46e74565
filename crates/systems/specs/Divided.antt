-- What the quotients are made of.
use Rattle.std.specs.Prelude.{ℤ, pos, ◌+ℤ◌, ◌-ℤ◌, ◌*ℤ◌, int_div}
use Rattle.ring.specs.Elem.{Elem}

-- by θ: (y + t·x/2, −x/2)
abbrev pub halved : ℤ → Elem → Elem
halved t a = record { x = a.y +ℤ t *ℤ int_div a.x (pos 2); y = pos 0 -ℤ int_div a.x (pos 2) }

-- by 2 + θ where θ² = −1: a fifth of 2x + y, and of 2y − x
abbrev pub along : Elem → ℤ
along a = (a.x +ℤ a.x) +ℤ a.y

abbrev pub across : Elem → ℤ
across a = (a.y +ℤ a.y) -ℤ a.x

abbrev pub fifth : Elem → Elem
fifth a = record { x = int_div (along a) (pos 5); y = int_div (across a) (pos 5) }
