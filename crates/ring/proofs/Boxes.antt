-- Finite boxes of elements: each has a number of its own, and elements of small norm stand in a box.
use Rattle.std.proofs.Common.{◌≡◌, ℕ, suc, ◌+◌, ◌-◌, ◌*◌, ◌/◌, ◌%◌, ◌<◌, ◌≤◌, ℤ, pos, negsuc, nat_abs, sym, ap, ◌∙◌, mul-le-mul_right, mul-le-mul, arith}
use native.Mathlib.Decide.{dec_lt}
use lib.Arith.{digits_div, digits_mod}
use Rattle.ring.specs.Elem.{Elem}
use Rattle.ring.specs.System.{System, Lawful, size}
use Rattle.ring.proofs.Elements.{same}
use Rattle.ring.proofs.Magnitudes.{size_x, size_y}

-- −B .. B from 0 up
abbrev pub off : ℕ → ℤ → ℕ
off B (pos n) = B + n
off B (negsuc n) = B - suc n

off_high : (B : ℕ) (a : ℤ) → nat_abs a ≤ B → off B a < 2 * B + 1
off_high B (pos n) h = omega arith
off_high B (negsuc n) h = omega arith

off_one : (B : ℕ) (a b : ℤ) → nat_abs a ≤ B → nat_abs b ≤ B → off B a ≡ off B b → a ≡ b
off_one B (pos n) (pos m) h k e = ap pos (omega arith)
off_one B (pos n) (negsuc m) h k e = absurd (omega arith)
off_one B (negsuc n) (pos m) h k e = absurd (omega arith)
off_one B (negsuc n) (negsuc m) h k e = ap negsuc (omega arith)

-- the box of coordinates from −B to B, and the number of an element in it
abbrev pub In : ℕ → Elem → Type 0
In B z = (nat_abs z.x ≤ B) × (nat_abs z.y ≤ B)

abbrev pub code : ℕ → Elem → ℕ
code B z = off B z.x * (2 * B + 1) + off B z.y

pub code_high : (B : ℕ) (z : Elem) → In B z → code B z < (2 * B + 1) * (2 * B + 1)
code_high B z h = let a = mul-le-mul_right (2 * B + 1) (off_high B z.x h.0) in let b = off_high B z.y h.1 in omega arith

pub code_one : (B : ℕ) (a b : Elem) → In B a → In B b → code B a ≡ code B b → a ≡ b
code_one B a b h k e =
    same a b
    (off_one B a.x b.x h.0 k.0 (sym (digits_div (off B a.x) (off_high B a.y h.1)) ∙ ap (λ n. n / (2 * B + 1)) e ∙ digits_div (off B b.x) (off_high B b.y k.1)))
    (off_one B a.y b.y h.1 k.1 (sym (digits_mod (off B a.x) (off_high B a.y h.1)) ∙ ap (λ n. n % (2 * B + 1)) e ∙ digits_mod (off B b.x) (off_high B b.y k.1)))

root : (M B a : ℕ) → 4 * M < 3 * ((B + 1) * (B + 1)) → 3 * (a * a) ≤ 4 * M → a ≤ B
root M B a h k = by (dec_lt B a)
  where
    by : Dec (B < a) → a ≤ B
    by (yes l) = absurd (let o : B + 1 ≤ a = omega arith in let m = mul-le-mul o o in omega arith)
    by (no l) = omega arith

-- elements of norm at most M stand in the box of B, where 4·M < 3·(B + 1)²
pub in_box : (s : System) (g : Lawful s) (M B : ℕ) → 4 * M < 3 * ((B + 1) * (B + 1)) → (z : Elem) → size s z ≤ M → In B z
in_box s g M B wide z h = (root M B (nat_abs z.x) wide (let k = size_x s g z in omega arith), root M B (nat_abs z.y) wide (let k = size_y s g z in omega arith))
