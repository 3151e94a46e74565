-- Elements x + yθ, written by their two whole coordinates. How θ multiplies is the system's.
use Rattle.std.specs.Prelude.{ℕ, ◌<◌, ℤ, pos, ◌+ℤ◌, ◌-ℤ◌, unsigned_abs}

pub record Elem : Type 0 where
  pub x : ℤ
  pub y : ℤ

abbrev pub 𝟘 : Elem
𝟘 = record { x = pos 0; y = pos 0 }

abbrev pub 𝟙 : Elem
𝟙 = record { x = pos 1; y = pos 0 }

abbrev pub add : Elem → Elem → Elem
add a b = record { x = a.x +ℤ b.x; y = a.y +ℤ b.y }

abbrev pub sub : Elem → Elem → Elem
sub a b = record { x = a.x -ℤ b.x; y = a.y -ℤ b.y }

-- both magnitudes are below the limit
pub record Below (limit : ℕ) (a : Elem) : Type 0 where
  pub in_x : unsigned_abs a.x < limit
  pub in_y : unsigned_abs a.y < limit
