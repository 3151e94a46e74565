-- The remainder in two parts: both quotients and their sum have room.
use Rattle.std.proofs.Common.{◌≡◌, ℕ, ◌+◌, ◌*◌, ◌^◌, ◌<◌, ◌≤◌, ℤ, ◌+ℤ◌, nat_abs, sym, ap, ◌∙◌, subst, ap₂, mul-le-mul_right, mul-le-mul, arith}
use native.Mathlib.Decide.{dec_lt}
use borrow.Author.Differences.{ints, abs_is}
use Rattle.ring.specs.Elem.{Elem, Below, add, sub}
use Rattle.ring.specs.System.{System, Lawful, mul, size}
use Rattle.ring.specs.Class.{InRange}
use Rattle.ring.proofs.Elements.{mul_add, sub_chain}
use Rattle.ring.proofs.Norms.{size_mul, size_β}
use Rattle.ring.proofs.Magnitudes.{size_high, size_x, size_y}
use Rattle.digits.proofs.Powers.{less_digit}

abs_add : (a b : ℤ) → nat_abs (a +ℤ b) ≤ nat_abs a + nat_abs b
abs_add a b = omega (arith, ints, abs_is a, abs_is b, abs_is (a +ℤ b))

twice : (L a : ℕ) → 1 ≤ L → 3 * (a * a) ≤ 8 * (L * L) → a < 2 * L
twice L a o h = elim (dec_lt a (2 * L)) [ yes l ↦ l | no n ↦ absurd (let k : 2 * L ≤ a = omega arith in let m = mul-le-mul k k in let p = mul-le-mul o o in omega arith) ]

module _ (s : System) (g : Lawful s) where
  -- a quotient of an element below L is below 2·L
  pub quotient_below : (L : ℕ) (a q : Elem) → mul s s.β q ≡ a → Below L a → Below (2 * L) q
  quotient_below L a q e h =
      let m : size s a ≡ s.p * size s q = sym (ap (size s) e) ∙ size_mul s g s.β q ∙ ap (λ k. k * size s q) (size_β s g) in
      let w = mul-le-mul_right (size s q) g.p_low in
      let n = size_high s g L a (omega (arith, h.in_x)) (omega (arith, h.in_y)) in
      let some : 1 ≤ L = omega (arith, h.in_x) in
      record {
        in_x = twice L (nat_abs q.x) some (let k = size_x s g q in omega arith);
        in_y = twice L (nat_abs q.y) some (let k = size_y s g q in omega arith);
      }

  pub sum_below : (W L : ℕ) (a b : Elem) → Below (2 * W) a → Below (2 * L) b → L ≤ W → Below (8 * W) (add a b)
  sum_below W L a b h k l = record {
    in_x = (let m = abs_add a.x b.x in omega (arith, h.in_x, k.in_x));
    in_y = (let m = abs_add a.y b.y in omega (arith, h.in_y, k.in_y));
  }

  -- β·(high + low) = (z − near) + (near − d)
  pub parts : (z near d high low : Elem) → mul s s.β high ≡ sub z near → mul s s.β low ≡ sub near d → mul s s.β (add high low) ≡ sub z d
  parts z near d high low h k = mul_add s s.β high low ∙ ap₂ add h k ∙ sub_chain z near d

  -- near less a digit, whose element is e
  pub near_less : (near d e r : Elem) → e ≡ d → InRange e → Below (2 ^ 24) near → r ≡ sub near e → (r ≡ sub near d) × Below (2 ^ 24 + 255) r
  near_less near d e r p h k q = (q ∙ ap (sub near) p, subst (Below (2 ^ 24 + 255)) (sym q) (less_digit s g (2 ^ 24) near e k h))

pub wider : (a b : ℕ) (z : Elem) → a ≤ b → Below a z → Below b z
wider a b z l h = record { in_x = omega (arith, h.in_x); in_y = omega (arith, h.in_y) }
