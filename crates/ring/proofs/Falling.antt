-- 2k + 2 steps of a trail bring an element with both magnitudes below 2^k to norm at most 12·D.
-- In every two steps e doubles in 144·e²·N ≤ D·(29e + h)²: 29 = 12 + 17, since (12e)² = 144·e² and (17e)² ≥ 2·144·e².
use Rattle.std.proofs.Common.{◌≡◌, ℕ, zero, suc, ◌+◌, ◌*◌, ◌^◌, ◌<◌, ◌≤◌, pos, ◌+ℤ◌, ◌*ℤ◌, ◌≤ℤ◌, ap, ◌∙◌, subst, subst₂, mul-le-mul_right, mul-le-mul, mul-le-mul_left, arith, leb→le, pow_pos}
use mathlib.Core.Path.{subst₃}
use native.Mathlib.Nat.{le_of_mul-le-mul_left, pow-zero, pow-succ'}
use Rattle.ring.specs.Elem.{Elem, Below, sub}
use Rattle.ring.specs.System.{System, Lawful, mul, size}
use Rattle.ring.specs.Trail.{Trail}
use Rattle.ring.proofs.Norms.{size_is, young_e}
use Rattle.ring.proofs.Magnitudes.{size_high, size_step, step_is}

some : (a b : ℕ) → 1 ≤ a → 1 ≤ b → 0 < a * b
some a b h k = let m = mul-le-mul h k in omega arith

module _ (s : System) (g : Lawful s) where
  -- N(a − b) against N(a) and N(b), with weights q and r
  weighed : (q r : ℕ) (a b : Elem) → q * r * size s (sub a b) ≤ q * (q + r) * size s a + r * (q + r) * size s b
  weighed q r a b = leb→le (q * r * size s (sub a b)) (q * (q + r) * size s a + r * (q + r) * size s b) inℤ.le
    where
      inℤ : (pos q *ℤ pos r *ℤ pos (size s (sub a b))) ≤ℤ (pos q *ℤ (pos q +ℤ pos r) *ℤ pos (size s a) +ℤ pos r *ℤ (pos q +ℤ pos r) *ℤ pos (size s b))
      inℤ = subst₃ (λ x y z. (pos q *ℤ pos r *ℤ x) ≤ℤ (pos q *ℤ (pos q +ℤ pos r) *ℤ y +ℤ pos r *ℤ (pos q +ℤ pos r) *ℤ z)) (size_is s g (sub a b)) (size_is s g a) (size_is s g b) (young_e s g (pos q) (pos r) a b)

  -- the triangle inequality in the scale of c and D: c·N(a) ≤ D·r², c·N(b) ≤ D·q² give c·N(a − b) ≤ D·(r + q)²
  pub triangle : (c D r q : ℕ) (a b : Elem) → 1 ≤ r → 1 ≤ q → c * size s a ≤ D * (r * r) → c * size s b ≤ D * (q * q) → c * size s (sub a b) ≤ D * ((r + q) * (r + q))
  triangle c D r q a b o o' h k = le_of_mul-le-mul_left {k = q * r} (by (size s a) (size s b) (size s (sub a b)) h k (weighed q r a b)) (some q r o' o)
    where
      by : (A B C : ℕ) → c * A ≤ D * (r * r) → c * B ≤ D * (q * q) → q * r * C ≤ q * (q + r) * A + r * (q + r) * B → q * r * (c * C) ≤ q * r * (D * ((r + q) * (r + q)))
      by A B C h k m = omega (arith, mul-le-mul_left c m, mul-le-mul_left (q * (q + r)) h, mul-le-mul_left (r * (q + r)) k)

  -- one step doubles the scale
  pub half : (c D r q : ℕ) (z d y : Elem) → 1 ≤ r → 1 ≤ q → c * size s z ≤ D * (r * r) → c ≤ q * q → size s d ≤ D → mul s s.β y ≡ sub z d → 2 * c * size s y ≤ D * ((r + q) * (r + q))
  half c D r q z d y o o' h k l e =
      let t = triangle c D r q z d o o' h (let m = mul-le-mul k l in omega arith) in
      let p = mul-le-mul_left c (mul-le-mul_right (size s y) g.p_low) in
      let m = ap (λ x. c * x) (size_step s g z d y e) in
      omega arith

  pub two : (D e h : ℕ) (z d y d' y' : Elem) → 1 ≤ e → size s d ≤ D → size s d' ≤ D → mul s s.β y ≡ sub z d → mul s s.β y' ≡ sub y d' →
      144 * (e * e) * size s z ≤ D * ((29 * e + h) * (29 * e + h)) → 144 * (2 * e * (2 * e)) * size s y' ≤ D * ((29 * (2 * e) + h) * (29 * (2 * e) + h))
  two D e h z d y d' y' o l l' m m' b =
      let f = half (144 * (e * e)) D (29 * e + h) (12 * e) z d y (omega arith) (omega arith) b (omega arith) l m in
      let q = half (2 * (144 * (e * e))) D (29 * e + h + 12 * e) (17 * e) y d' y' (omega arith) (omega arith) f (omega arith) l' m' in
      omega arith

  -- the norm of z on the scale of e
  abbrev Scaled : ℕ → ℕ → ℕ → Elem → Type 0
  Scaled D e h z = 144 * (e * e) * size s z ≤ D * ((29 * e + h) * (29 * e + h))

  landed : (D P Z : ℕ) → 1 ≤ P → 144 * (2 * P * (2 * P)) * Z ≤ D * ((29 * (2 * P) + 24 * P) * (29 * (2 * P) + 24 * P)) → Z ≤ 12 * D
  landed D P Z o h = let c : 576 * Z ≤ 6724 * D = le_of_mul-le-mul_left {k = P * P} (omega arith) (some P P o o) in omega arith

  module _ (w D : ℕ) (S : Elem → Type 0) (small : (d : Elem) → S d → size s d ≤ D) (f : ℕ → Elem) (t : Trail s w S f) where
    -- the digit of the step after k, and what it leaves
    stepped : (k : ℕ) → (d : Elem) × (mul s s.β (f (suc k)) ≡ sub (f k) d) × (size s d ≤ D)
    stepped k = let q = step_is s g w D S small (f k) (t k).0 (f (suc k)) (t k).1 in ((t k).0, q.0, q.1)

    fall : (m k e E h : ℕ) → 1 ≤ e → E ≡ 2 ^ m * e → Scaled D e h (f k) → Scaled D E h (f (2 * m + k))
    fall zero k e E h o i b = subst₂ (λ u j. Scaled D u h (f j)) (omega (arith, pow-zero 2)) (omega arith) b
    fall (suc m) k e E h o i b =
        let a = stepped k in
        let c = stepped (suc k) in
        let r = fall m (suc (suc k)) (2 * e) E h (omega arith) (i ∙ ap (λ u. u * e) (pow-succ' 2 m) ∙ omega arith)
        (two D e h (f k) a.0 (f (suc k)) c.0 (f (suc (suc k))) o a.2 c.2 a.1 c.1 b) in
        subst (λ j. Scaled D E h (f j)) (omega arith) r

    pub norm_falls : 1 ≤ D → (k : ℕ) → Below (2 ^ k) (f 0) → size s (f (2 * k + 2)) ≤ 12 * D
    norm_falls o k l =
        let P = 2 ^ k in
        let n = size_high s g P (f 0) (omega (arith, l.in_x)) (omega (arith, l.in_y)) in
        let start : Scaled D 1 (24 * P) (f 0) = let m = mul-le-mul_right ((29 * 1 + 24 * P) * (29 * 1 + 24 * P)) o in omega arith in
        let r = fall (suc k) 0 1 (2 * P) (24 * P) (omega arith) (omega (arith, pow-succ' 2 k)) start in
        subst (λ j. size s (f j) ≤ 12 * D) (omega arith) (landed D P (size s (f (2 * suc k + 0))) (pow_pos k) r)
