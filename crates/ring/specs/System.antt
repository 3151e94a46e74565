-- Number systems: θ² = tθ − n, a base β and its norm p; products, powers and norms in them.
use Rattle.std.specs.Prelude.{◌≡◌, ℕ, zero, suc, ◌-◌, ◌*◌, ◌^◌, ◌≤◌, ℤ, pos, negsuc, ◌+ℤ◌, ◌-ℤ◌, ◌*ℤ◌, ◌≤ℤ◌, unsigned_abs}
use Rattle.ring.specs.Elem.{Elem, 𝟙}

pub record System : Type 0 where
  pub t : ℤ
  pub n : ℤ
  pub β : Elem
  pub p : ℕ

-- (a + bθ)(c + dθ) = ac + (ad + bc)θ + bdθ²
abbrev pub mul : System → Elem → Elem → Elem
mul s a b = record { x = a.x *ℤ b.x -ℤ s.n *ℤ (a.y *ℤ b.y); y = a.x *ℤ b.y +ℤ a.y *ℤ b.x +ℤ s.t *ℤ (a.y *ℤ b.y) }

abbrev pub pow : System → Elem → ℕ → Elem
pow s b zero = 𝟙
pow s b (suc k) = mul s b (pow s b k)

-- N(x + yθ) = x² + t·x·y + n·y²
abbrev pub norm : System → Elem → ℤ
norm s a = a.x *ℤ a.x +ℤ s.t *ℤ (a.x *ℤ a.y) +ℤ s.n *ℤ (a.y *ℤ a.y)

-- the norm as a natural number: no norm of a lawful system is negative
unfoldable pub size : System → Elem → ℕ
size s a = unsigned_abs (norm s a)

-- what a number system shows of its numbers
pub record Lawful (s : System) : Type 0 where
  pub t_low : negsuc 0 ≤ℤ s.t
  pub t_high : s.t ≤ℤ pos 1
  pub n_low : pos 1 ≤ℤ s.n
  pub n_high : s.n ≤ℤ pos 2
  pub p_is : norm s s.β ≡ pos s.p
  pub p_low : 2 ≤ s.p
  pub p_high : s.p ≤ 8

-- the number of classes at width w that β does not divide
abbrev pub classes : ℕ → ℕ → ℕ
classes p w = (p - 1) * p ^ (w - 1)

-- the widths that a system serves: 1 to the widest
pub record Widths (p widest : ℕ) : Type 0 where
  pub some : 1 ≤ widest
  pub few : classes p widest ≤ 128
