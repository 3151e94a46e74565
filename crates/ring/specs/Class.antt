-- Divisibility, classes of elements at a width, and sets of digits.
use Rattle.std.specs.Prelude.{◌≡◌, ℕ}
use Rattle.ring.specs.Elem.{Elem, sub, Below}
use Rattle.ring.specs.System.{System, mul, pow}

abbrev pub Divides : System → Elem → Elem → Type 0
Divides s b z = (q : Elem) × (mul s b q ≡ z)

-- β divides z
abbrev pub Even : System → Elem → Type 0
Even s z = Divides s s.β z

-- a and b are of one class at width w
abbrev pub SameClass : System → ℕ → Elem → Elem → Type 0
SameClass s w a b = Divides s (pow s s.β w) (sub a b)

-- coordinates from −255 to 255
abbrev pub InRange : Elem → Type 0
InRange d = Below 256 d

-- a member of S is of z's class
abbrev pub Classed : System → ℕ → (Elem → Type 0) → Elem → Type 0
Classed s w S z = (d : Elem) × S d × SameClass s w z d

-- at least one digit in each class that β does not divide, and no other digits
pub record Covers (s : System) (w : ℕ) (S : Elem → Type 0) : Type 0 where
  pub odd : (d : Elem) → S d → ¬ (Even s d)
  pub some : (z : Elem) → ¬ (Even s z) → Classed s w S z

-- exactly one digit in each class that β does not divide, and no other digits
pub record Full (s : System) (w : ℕ) (S : Elem → Type 0) : Type 0 where
  pub odd : (d : Elem) → S d → ¬ (Even s d)
  pub some : (z : Elem) → ¬ (Even s z) → Classed s w S z
  pub one : (d e : Elem) → S d → S e → SameClass s w d e → d ≡ e
