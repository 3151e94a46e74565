-- Division by powers of the base, one division after the other: the norm falls, and so both magnitudes stay below the limit.
use Rattle.std.proofs.Common.{◌≡◌, ℕ, zero, suc, ◌+◌, ◌-◌, ◌*◌, ◌<◌, ◌≤◌, nat_abs, sym, ap, ◌∙◌, subst, mul-le-mul_right, mul-le-mul, arith}
use native.Mathlib.Decide.{dec_lt}
use Rattle.ring.specs.Elem.{Elem, Below, sub}
use Rattle.ring.specs.System.{System, Lawful, mul, pow, size}
use Rattle.ring.specs.Class.{Divides, Even, InRange}
use Rattle.ring.proofs.Elements.{mul_assoc, mul_one}
use Rattle.ring.proofs.Norms.{size_mul, size_β}
use Rattle.ring.proofs.Expansions.{cancel_β}
use Rattle.ring.proofs.Magnitudes.{abs_sub, size_high, size_x, size_y}

-- the norm is so small that both magnitudes are below the limit, of a and of each quotient of a
pub record Inside (s : System) (limit : ℕ) (a : Elem) : Type 0 where
  pub norm_below : 4 * size s a < 3 * (limit * limit)

root : (a b : ℕ) → a * a < b * b → a < b
root a b h = elim (dec_lt a b) [ yes l ↦ l | no n ↦ absurd (let g : b ≤ a = omega arith in let m = mul-le-mul g g in omega arith) ]

module _ (s : System) (g : Lawful s) where
  pub inside_below : (limit : ℕ) (a : Elem) → Inside s limit a → Below limit a
  inside_below limit a h =
      let k = h.norm_below in
      record {
        in_x = root (nat_abs a.x) limit (let n = size_x s g a in omega arith);
        in_y = root (nat_abs a.y) limit (let n = size_y s g a in omega arith);
      }

  pub inside_quotient : (limit : ℕ) (a q : Elem) → mul s s.β q ≡ a → Inside s limit a → Inside s limit q
  inside_quotient limit a q e h =
      let m : size s a ≡ s.p * size s q = sym (ap (size s) e) ∙ size_mul s g s.β q ∙ ap (λ k. k * size s q) (size_β s g) in
      let w = mul-le-mul_right (size s q) g.p_low in
      record { norm_below = omega (arith, h.norm_below) }

  -- an element below B less a digit is below B + 255
  pub less_digit : (B : ℕ) (a d : Elem) → Below B a → InRange d → Below (B + 255) (sub a d)
  less_digit B a d h k = let x = abs_sub s g a.x d.x in let y = abs_sub s g a.y d.y in record { in_x = omega arith; in_y = omega arith }

  -- magnitudes at most a quarter of the limit
  pub below_inside : (B limit : ℕ) (a : Elem) → Below B a → 4 * B ≤ limit → 1 ≤ limit → Inside s limit a
  below_inside B limit a h l o =
      let n = size_high s g B a (omega (arith, h.in_x)) (omega (arith, h.in_y)) in
      let m = mul-le-mul l l in
      let p = mul-le-mul o o in
      record { norm_below = omega arith }

  down : (k : ℕ) (a q : Elem) → mul s s.β q ≡ a → Divides s (pow s s.β (suc k)) a → Divides s (pow s s.β k) q
  down k a q e (r, f) = (r, cancel_β s g (mul s (pow s s.β k) r) q (sym (mul_assoc s s.β (pow s s.β k) r) ∙ f ∙ sym e))

  up : (k : ℕ) (a q : Elem) → mul s s.β q ≡ a → Divides s (pow s s.β k) q → Divides s (pow s s.β (suc k)) a
  up k a q e (r, f) = (r, mul_assoc s s.β (pow s s.β k) r ∙ ap (mul s s.β) f ∙ e)

  once : (k : ℕ) (a : Elem) → Divides s (pow s s.β (suc k)) a → Even s a
  once k a (r, f) = (mul s (pow s s.β k) r, sym (mul_assoc s s.β (pow s s.β k) r) ∙ f)

  -- a power that divides, from width 1 on, makes the base divide
  pub power_even : (w : ℕ) (a : Elem) → 1 ≤ w → Divides s (pow s s.β w) a → Even s a
  power_even zero a h d = absurd (omega arith)
  power_even (suc k) a h d = once k a d

  pub begun : (w : ℕ) (a : Elem) → (Divides s (pow s s.β (w - 0)) a → Divides s (pow s s.β w) a) × (Divides s (pow s s.β w) a → Divides s (pow s s.β (w - 0)) a)
  begun w a = let f : w - 0 ≡ w = omega arith in (subst (λ (j : ℕ). Divides s (pow s s.β j) a) f, subst (λ (j : ℕ). Divides s (pow s s.β j) a) (sym f))

  -- one division on: the power w − k divides a exactly if the power w divides z
  pub turn : (w k : ℕ) (z a q : Elem) → k < w → mul s s.β q ≡ a →
      (Divides s (pow s s.β (w - k)) a → Divides s (pow s s.β w) z) × (Divides s (pow s s.β w) z → Divides s (pow s s.β (w - k)) a) →
      (Divides s (pow s s.β (w - (k + 1))) q → Divides s (pow s s.β w) z) × (Divides s (pow s s.β w) z → Divides s (pow s s.β (w - (k + 1))) q)
  turn w k z a q h e i =
      let f : w - k ≡ suc (w - (k + 1)) = omega arith in
      (λ d. i.0 (subst (λ (j : ℕ). Divides s (pow s s.β j) a) (sym f) (up (w - (k + 1)) a q e d)), λ d. down (w - (k + 1)) a q e (subst (λ (j : ℕ). Divides s (pow s s.β j) a) f (i.1 d)))

  pub stuck : (w k : ℕ) (a : Elem) → k < w → Divides s (pow s s.β (w - k)) a → Even s a
  stuck w k a h d = power_even (w - k) a (omega arith) d

  pub finished : (w k : ℕ) (a : Elem) → w ≤ k → Divides s (pow s s.β (w - k)) a
  finished w k a h = let f : w - k ≡ 0 = omega arith in subst (λ (j : ℕ). Divides s (pow s s.β j) a) (sym f) (a, mul_one s a)
