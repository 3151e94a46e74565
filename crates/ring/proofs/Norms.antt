-- The norm: it is not negative, it bounds the coordinates, and a factor of norm at least 1 cancels.
use Rattle.std.proofs.Common.{◌≡◌, ℕ, zero, suc, ◌+◌, ◌-◌, ◌*◌, ◌^◌, ◌<◌, ◌≤◌, ◌≢◌, [], ◌∷◌, ℤ, pos, negsuc, ◌+ℤ◌, ◌-ℤ◌, ◌*ℤ◌, neg_ℤ, nat_abs, ◌≤ℤ◌, sym, refl, ap, ◌∙◌, ap₂, mul-le-mul_right, arith}
use native.Mathlib.Nat.{lt_of_mul-lt-mul_left, le_of_mul-le-mul_left, pow-zero, pow-succ'}
use borrow.Author.Differences.{ints}
use Rattle.ring.specs.Elem.{Elem, add, sub, 𝟘, 𝟙}
use Rattle.ring.specs.System.{System, Lawful, mul, norm, pow, size}
use Rattle.ring.proofs.Integers.{lin}
use Rattle.ring.proofs.Polynomials.{Ex, var, ◌⊕◌, ◌⊗◌, ◌⊖◌, ⊝◌, solve}
use Rattle.ring.proofs.Orders.{ord, sq_nonneg, mul_nonneg, cancel_nonneg, sq_zero, cancel_zero}
use Rattle.ring.proofs.Elements.{same, mulx, addx, subx, normx, #, A, B, env1, env2, norm_mul}

module _ (s : System) (g : Lawful s) where
  t_sq : (s.t *ℤ s.t) ≤ℤ pos 1
  t_sq =
      let p = mul_nonneg (pos 1 -ℤ s.t) (pos 1 +ℤ s.t) (let h = g.t_high in omega (arith, ord)) (let h = g.t_low in omega (arith, ord)) in
      let e = solve (s.t ∷ []) ((# 1 ⊖ var 0) ⊗ (# 1 ⊕ var 0)) (# 1 ⊖ var 0 ⊗ var 0) tt in
      omega (arith, ord)

  -- 4·N − 3·y² = (2x + ty)² + (4n − t² − 3)·y²
  pub norm_y : (a : Elem) → (pos 3 *ℤ (a.y *ℤ a.y)) ≤ℤ (pos 4 *ℤ norm s a)
  norm_y a =
      let h = t_sq in
      let k = g.n_low in
      let p = mul_nonneg (pos 4 *ℤ s.n -ℤ s.t *ℤ s.t -ℤ pos 3) (a.y *ℤ a.y) (omega (arith, ints)) (sq_nonneg a.y) in
      let q = sq_nonneg (pos 2 *ℤ a.x +ℤ s.t *ℤ a.y) in
      let e = solve (env1 s a) (# 4 ⊗ normx A ⊖ # 3 ⊗ (var 3 ⊗ var 3)) ((# 2 ⊗ var 2 ⊕ var 0 ⊗ var 3) ⊗ (# 2 ⊗ var 2 ⊕ var 0 ⊗ var 3) ⊕ (# 4 ⊗ var 1 ⊖ var 0 ⊗ var 0 ⊖ # 3) ⊗ (var 3 ⊗ var 3)) tt in
      omega (arith, ord)

  -- n·(4·N − 3·x²) = (2ny + tx)² + (n − t²)·x²
  pub norm_x : (a : Elem) → (pos 3 *ℤ (a.x *ℤ a.x)) ≤ℤ (pos 4 *ℤ norm s a)
  norm_x a =
      let h = t_sq in
      let k = g.n_low in
      let p = mul_nonneg (s.n -ℤ s.t *ℤ s.t) (a.x *ℤ a.x) (omega (arith, ints)) (sq_nonneg a.x) in
      let q = sq_nonneg (pos 2 *ℤ s.n *ℤ a.y +ℤ s.t *ℤ a.x) in
      let e = solve (env1 s a) (var 1 ⊗ (# 4 ⊗ normx A ⊖ # 3 ⊗ (var 2 ⊗ var 2))) ((# 2 ⊗ var 1 ⊗ var 3 ⊕ var 0 ⊗ var 2) ⊗ (# 2 ⊗ var 1 ⊗ var 3 ⊕ var 0 ⊗ var 2) ⊕ (var 1 ⊖ var 0 ⊗ var 0) ⊗ (var 2 ⊗ var 2)) tt in
      let r = cancel_nonneg s.n (pos 4 *ℤ norm s a -ℤ pos 3 *ℤ (a.x *ℤ a.x)) k (omega (arith, ord)) in
      omega (arith, ord)

  pub norm_nonneg : (a : Elem) → pos 0 ≤ℤ norm s a
  norm_nonneg a = let h = norm_x a in let k = sq_nonneg a.x in omega (arith, ints)

  pub norm_zero : (a : Elem) → norm s a ≡ pos 0 → a ≡ 𝟘
  norm_zero a e =
      let h = norm_x a in
      let k = norm_y a in
      same a 𝟘 (sq_zero a.x (omega (arith, ints))) (sq_zero a.y (omega (arith, ints)))

  pub norm_positive : (a : Elem) → a ≢ 𝟘 → pos 1 ≤ℤ norm s a
  norm_positive a n = by (norm s a) (norm_nonneg a) (λ e. n (norm_zero a e))
    where
      by : (m : ℤ) → pos 0 ≤ℤ m → m ≢ pos 0 → pos 1 ≤ℤ m
      by (pos zero) h k = absurd (k refl)
      by (pos (suc m)) h k = omega (arith, ord)
      by (negsuc m) h k = absurd (omega (arith, ord))

pub norm_at_zero : (s : System) → norm s 𝟘 ≡ pos 0
norm_at_zero s = solve (s.t ∷ s.n ∷ []) (normx (# 0, # 0)) (# 0) tt

-- a positive factor of ℤ goes
pub cancel_mul : (k a c : ℤ) → pos 1 ≤ℤ k → k *ℤ a ≡ k *ℤ c → a ≡ c
cancel_mul k a c h e =
    let m = solve (k ∷ a ∷ c ∷ []) (var 0 ⊗ (var 1 ⊖ var 2)) (var 0 ⊗ var 1 ⊖ var 0 ⊗ var 2) tt in
    let z = cancel_zero k (a -ℤ c) h (omega (arith, lin)) in
    omega (arith, lin)

module _ (s : System) where
  unfoldable pub conj : Elem → Elem
  conj b = record { x = b.x +ℤ s.t *ℤ b.y; y = neg_ℤ b.y }

  abbrev pub conjx : Ex × Ex → Ex × Ex
  conjx b = (b.0 ⊕ var 0 ⊗ b.1, ⊝ b.1)

  -- conj b · (b·a) = N(b)·a
  pub conj_mul : (b a : Elem) → ((mul s (conj b) (mul s b a)).x ≡ norm s b *ℤ a.x) × ((mul s (conj b) (mul s b a)).y ≡ norm s b *ℤ a.y)
  unfolding conj
  conj_mul b a = (solve (env2 s b a) (mulx (conjx A) (mulx A B)).0 (normx A ⊗ var 4) tt, solve (env2 s b a) (mulx (conjx A) (mulx A B)).1 (normx A ⊗ var 5) tt)

  -- a factor whose norm is at least 1 cancels
  pub cancel : (b a c : Elem) → pos 1 ≤ℤ norm s b → mul s b a ≡ mul s b c → a ≡ c
  cancel b a c h e =
      same a c
      (cancel_mul (norm s b) a.x c.x h (sym (conj_mul b a).0 ∙ ap (λ z. (mul s (conj b) z).x) e ∙ (conj_mul b c).0))
      (cancel_mul (norm s b) a.y c.y h (sym (conj_mul b a).1 ∙ ap (λ z. (mul s (conj b) z).y) e ∙ (conj_mul b c).1))

  -- 2·N(a − b) ≤ 3·N(a) + 6·N(b), since 3·N(a) + 6·N(b) − 2·N(a − b) = N(a + 2b)
  pub young : (g : Lawful s) (a b : Elem) → (pos 2 *ℤ norm s (sub a b)) ≤ℤ (pos 3 *ℤ norm s a +ℤ pos 6 *ℤ norm s b)
  young g a b =
      let p = norm_nonneg s g (add a (add b b)) in
      let e = solve (env2 s a b) (# 3 ⊗ normx A ⊕ # 6 ⊗ normx B ⊖ # 2 ⊗ normx (subx A B)) (normx (addx A (addx B B))) tt in
      omega (arith, ord)

  -- the same for every ratio e = u/v
  pub young_e : (g : Lawful s) (u v : ℤ) (a b : Elem) → (u *ℤ v *ℤ norm s (sub a b)) ≤ℤ (u *ℤ (u +ℤ v) *ℤ norm s a +ℤ v *ℤ (u +ℤ v) *ℤ norm s b)
  young_e g u v a b =
      let l : ℤ → Elem → Elem = λ k c. record { x = k *ℤ c.x; y = k *ℤ c.y } in
      let p = norm_nonneg s g (add (l u a) (l v b)) in
      let e = solve (s.t ∷ s.n ∷ a.x ∷ a.y ∷ b.x ∷ b.y ∷ u ∷ v ∷ [])
      (var 6 ⊗ (var 6 ⊕ var 7) ⊗ normx A ⊕ var 7 ⊗ (var 6 ⊕ var 7) ⊗ normx B ⊖ var 6 ⊗ var 7 ⊗ normx (subx A B))
      (normx (addx (var 6 ⊗ var 2, var 6 ⊗ var 3) (var 7 ⊗ var 4, var 7 ⊗ var 5))) tt in
      omega (arith, ord)

-- ---- the norm as a natural number
abs_of : (z : ℤ) → pos 0 ≤ℤ z → z ≡ pos (nat_abs z)
abs_of (pos n) h = refl
abs_of (negsuc n) h = absurd (omega (arith, ord))

-- pure arithmetic of the contraction: P = p^w, Q, Z the sizes of the quotient and of z
pub shrinks : (P Q Z D : ℕ) → 2 ≤ P → 2 * (P * Q) ≤ 3 * Z + 6 * D → 6 * D < Z * (2 * P - 3) → Q < Z
shrinks P Q Z D p h k =
    let e : 2 * P ≡ (2 * P - 3) + 3 = omega arith in
    let m = ap (λ x. Z * x) e in
    lt_of_mul-lt-mul_left P (omega arith)

pub stays : (P Q Z D : ℕ) → 2 ≤ P → 2 * (P * Q) ≤ 3 * Z + 6 * D → Z * (2 * P - 3) ≤ 6 * D → Q * (2 * P - 3) ≤ 6 * D
stays P Q Z D p h k = le_of_mul-le-mul_left {k = P} (by (2 * P - 3) (omega arith) k) (omega arith)
  where
    by : (K : ℕ) → 2 * P ≡ K + 3 → Z * K ≤ 6 * D → P * (Q * K) ≤ P * (6 * D)
    by K e k = omega (arith, mul-le-mul_right K h, ap (λ x. D * x) e)

module _ (s : System) (g : Lawful s) where
  pub size_is : (a : Elem) → norm s a ≡ pos (size s a)
  unfolding size
  size_is a = abs_of (norm s a) (norm_nonneg s g a)

  pub size_mul : (a b : Elem) → size s (mul s a b) ≡ size s a * size s b
  unfolding size
  size_mul a b = ap nat_abs (sym (size_is (mul s a b)) ∙ norm_mul s a b ∙ ap₂ ◌*ℤ◌ (size_is a) (size_is b))

  pub size_β : size s s.β ≡ s.p
  unfolding size
  size_β = ap nat_abs g.p_is

  size_one : size s 𝟙 ≡ 1
  unfolding size
  size_one = ap nat_abs (solve (s.t ∷ s.n ∷ []) (normx (# 1, # 0)) (# 1) tt)

  pub size_pow : (w : ℕ) → size s (pow s s.β w) ≡ s.p ^ w
  size_pow zero = size_one ∙ sym (pow-zero s.p)
  size_pow (suc w) = size_mul s.β (pow s s.β w) ∙ ap₂ ◌*◌ size_β (size_pow w) ∙ sym (pow-succ' s.p w)

  pub contracts : (w D : ℕ) (z d q : Elem) → mul s (pow s s.β w) q ≡ sub z d → size s d ≤ D → 2 * (s.p ^ w * size s q) ≤ 3 * size s z + 6 * D
  contracts w D z d q e h =
      let y = young s g z d in
      let m = sym (ap (size s) e) ∙ size_mul (pow s s.β w) q ∙ ap (λ k. k * size s q) (size_pow w) in
      omega (arith, ints, size_is z, size_is d, size_is (sub z d))
