-- A step keeps the norm below every bound that is at least 6·D, and the norm bounds the coordinates.
use Rattle.std.proofs.Common.{◌≡◌, ℕ, ◌+◌, ◌*◌, ◌<◌, ◌≤◌, [], ◌∷◌, ℤ, pos, negsuc, ◌+ℤ◌, ◌-ℤ◌, ◌*ℤ◌, nat_abs, ◌≤ℤ◌, sym, refl, ap, ◌∙◌, inl, inr, mul-le-mul_right, mul-le-mul, arith}
use native.Mathlib.Decide.{dec_lt}
use borrow.Author.Differences.{ints, abs_is}
use Rattle.ring.specs.Elem.{Elem, sub, 𝟘, Below}
use Rattle.ring.specs.System.{System, Lawful, mul, norm, size}
use Rattle.ring.specs.Class.{InRange}
use Rattle.ring.specs.Trail.{Step}
use Rattle.ring.specs.Bounds.{Within}
use Rattle.ring.proofs.Polynomials.{var, ◌⊕◌, ◌⊗◌, ◌⊖◌, solve}
use Rattle.ring.proofs.Orders.{ord, sq_nonneg, mul_nonneg}
use Rattle.ring.proofs.Elements.{#, normx, A, env1, sub_zero}
use Rattle.ring.proofs.Norms.{size_is, size_mul, size_β, young, norm_x, norm_y}

pub sq_abs : (a : ℤ) → a *ℤ a ≡ pos (nat_abs a * nat_abs a)
sq_abs (pos n) = refl
sq_abs (negsuc n) = refl

module _ (s : System) (g : Lawful s) where
  pub size_zero : size s 𝟘 ≡ 0
  unfolding size
  size_zero = ap nat_abs (solve (s.t ∷ s.n ∷ []) (normx (# 0, # 0)) (# 0) tt)

  -- 3x² + 5y² − 2N = (x − ty)² + (5 − t² − 2n)·y²
  pub norm_high : (a : Elem) → (pos 2 *ℤ norm s a) ≤ℤ (pos 3 *ℤ (a.x *ℤ a.x) +ℤ pos 5 *ℤ (a.y *ℤ a.y))
  norm_high a =
      let h = mul_nonneg (pos 1 -ℤ s.t) (pos 1 +ℤ s.t) (let h = g.t_high in omega (arith, ord)) (let h = g.t_low in omega (arith, ord)) in
      let i = solve (s.t ∷ []) ((# 1 ⊖ var 0) ⊗ (# 1 ⊕ var 0)) (# 1 ⊖ var 0 ⊗ var 0) tt in
      let k = g.n_high in
      let p = mul_nonneg (pos 5 -ℤ s.t *ℤ s.t -ℤ pos 2 *ℤ s.n) (a.y *ℤ a.y) (omega (arith, ints)) (sq_nonneg a.y) in
      let q = sq_nonneg (a.x -ℤ s.t *ℤ a.y) in
      let e = solve (env1 s a) (# 3 ⊗ (var 2 ⊗ var 2) ⊕ # 5 ⊗ (var 3 ⊗ var 3) ⊖ # 2 ⊗ normx A)
      ((var 2 ⊖ var 0 ⊗ var 3) ⊗ (var 2 ⊖ var 0 ⊗ var 3) ⊕ (# 5 ⊖ var 0 ⊗ var 0 ⊖ # 2 ⊗ var 1) ⊗ (var 3 ⊗ var 3)) tt in
      omega (arith, ord)

  -- magnitudes at most B: norm at most 4·B²
  pub size_high : (B : ℕ) (a : Elem) → nat_abs a.x ≤ B → nat_abs a.y ≤ B → size s a ≤ 4 * (B * B)
  size_high B a h k =
      let n = norm_high a in
      let x = mul-le-mul h h in
      let y = mul-le-mul k k in
      omega (arith, ints, sq_abs a.x, sq_abs a.y, size_is s g a)

  -- norm at most M: 3·x², 3·y² at most 4·M
  pub size_x : (a : Elem) → 3 * (nat_abs a.x * nat_abs a.x) ≤ 4 * size s a
  size_x a = let n = norm_x s g a in omega (arith, ints, sq_abs a.x, size_is s g a)

  pub size_y : (a : Elem) → 3 * (nat_abs a.y * nat_abs a.y) ≤ 4 * size s a
  size_y a = let n = norm_y s g a in omega (arith, ints, sq_abs a.y, size_is s g a)

  -- p·N(r) = N(z − d)
  pub size_step : (z d r : Elem) → mul s s.β r ≡ sub z d → size s (sub z d) ≡ s.p * size s r
  size_step z d r e = sym (ap (size s) e) ∙ size_mul s g s.β r ∙ ap (λ k. k * size s r) (size_β s g)

  pub one_step : (D : ℕ) (z d r : Elem) → mul s s.β r ≡ sub z d → size s d ≤ D → 4 * size s r ≤ 3 * size s z + 6 * D
  one_step D z d r e h =
      let y = young s g z d in
      let m = size_step z d r e in
      let l = mul-le-mul_right (size s r) g.p_low in
      omega (arith, ints, size_is s g z, size_is s g d, size_is s g (sub z d))

  pub keeps : (D M : ℕ) → 6 * D ≤ M → (z d r : Elem) → mul s s.β r ≡ sub z d → size s d ≤ D → size s z ≤ M → size s r ≤ M
  keeps D M l z d r e h k = let c = one_step D z d r e h in omega arith

  pub step_is : (w D : ℕ) (S : Elem → Type 0) → ((d : Elem) → S d → size s d ≤ D) → (z d r : Elem) → Step s w S z d r → (mul s s.β r ≡ sub z d) × (size s d ≤ D)
  step_is w D S small z d r (inl h) = (h.2 ∙ sym (ap (sub z) h.1 ∙ sub_zero z), omega (arith, ap (size s) h.1 ∙ size_zero))
  step_is w D S small z d r (inr h) = (h.3, small d h.1)

  pub digit_size : (d : Elem) → InRange d → size s d ≤ 260100
  digit_size d h = let k = size_high 255 d (omega arith) (omega arith) in omega arith

  pub loaded : (L : ℕ) (z : Elem) → Below L z → Within s L z
  loaded L z h = size_high L z (omega arith) (omega arith)

  pub step : (L : ℕ) → 1024 ≤ L → (w : ℕ) (S : Elem → Type 0) → ((d : Elem) → S d → InRange d) → (z d r : Elem) → Step s w S z d r → Within s L z → Within s L r
  step L l w S short z d r t h =
      let q = step_is w 260100 S (λ d m. digit_size d (short d m)) z d r t in
      keeps 260100 (4 * (L * L)) (let m = mul-le-mul l l in omega arith) z d r q.0 q.1 h

  root : (L a : ℕ) → 1024 ≤ L → 3 * (a * a) ≤ 16 * (L * L) → a < 3 * L
  root L a l h = by (dec_lt a (3 * L))
    where
      by : Dec (a < 3 * L) → a < 3 * L
      by (yes k) = k
      by (no k) = absurd (let o : 3 * L ≤ a = omega arith in let m = mul-le-mul o o in let n = mul-le-mul l l in omega arith)

  pub coordinates : (L : ℕ) → 1024 ≤ L → (z : Elem) → Within s L z → Below (3 * L) z
  coordinates L l z h = record { in_x = root L (nat_abs z.x) l (let k = size_x z in omega arith); in_y = root L (nat_abs z.y) l (let k = size_y z in omega arith) }

  pub abs_sub : (a b : ℤ) → nat_abs (a -ℤ b) ≤ nat_abs a + nat_abs b
  abs_sub a b = omega (arith, ints, abs_is a, abs_is b, abs_is (a -ℤ b))

  pub difference : (L : ℕ) → 1024 ≤ L → (z d : Elem) → Within s L z → InRange d → Below (4 * L) (sub z d)
  difference L l z d h k = let c = coordinates L l z h in let a = abs_sub z.x d.x in let b = abs_sub z.y d.y in record { in_x = omega arith; in_y = omega arith }

  small_root : (a : ℕ) → 3 * (a * a) ≤ 32 → a < 256
  small_root a h = elim (dec_lt a 256) [ yes l ↦ l | no n ↦ absurd (let k : 256 ≤ a = omega arith in let m = mul-le-mul k k in omega arith) ]

  -- the base of a lawful system is in the range of digits
  pub base_in_range : InRange s.β
  base_in_range =
      let p = size_β s g in
      let h = g.p_high in
      record {
        in_x = small_root (nat_abs s.β.x) (let n = size_x s.β in omega arith);
        in_y = small_root (nat_abs s.β.y) (let n = size_y s.β in omega arith);
      }
