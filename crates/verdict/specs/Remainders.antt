-- The remainder of a step as a function of the element: there is one, it is one, and it stays small.
use Rattle.std.specs.Prelude.{◌≡◌, ℕ, zero, suc, ◌^◌, ◌<◌, ◌≤◌, ◌⊎◌, List, [], ◌∷◌, length, get_or, pos, slice_index_or, refl}
use Rattle.std.proofs.Common.{sym, ap, subst, ◌∙◌, inl, inr, mul-le-mul, arith}
use Rattle.std.proofs.Math.Nat.{pow-zero, pow-succ'}
use Rattle.std.proofs.Math.Decide.{dec_lt}
use Rattle.ring.specs.Elem.{Elem, sub, 𝟘}
use Rattle.ring.specs.System.{System, Lawful, mul, pow, size}
use Rattle.ring.specs.Class.{Even, SameClass, InRange}
use Rattle.ring.proofs.Elements.{sub_zero, mul_zero}
use Rattle.ring.proofs.Norms.{size_is, size_pow}
use Rattle.ring.proofs.Magnitudes.{size_zero, digit_size, keeps}
use Rattle.ring.proofs.Division.{divides?}
use Rattle.ring.proofs.Expansions.{cancel_β}
use Rattle.digits.specs.Digits.{elems}
use Rattle.digits.specs.Stepping.{FirstOf, Unclassed}
use Rattle.digits.specs.declared.digit.Digit.{Digit}
use Rattle.digits.proofs.Powers.{power_even}
use Rattle.digits.proofs.Firsts.{first_held}

-- r is the remainder of z's step: z/β, or (z − d)/β with the first digit d of z's class, or 0 where there is neither
abbrev pub Remains : System → ℕ → List Elem → Elem → Elem → Type 0
Remains s w ds z r = (mul s s.β r ≡ z) ⊎ ((¬ (Even s z)) × (((d : Elem) × FirstOf s w ds z d × (mul s s.β r ≡ sub z d)) ⊎ (Unclassed s w ds z × (r ≡ 𝟘))))

module _ (s : System) (g : Lawful s) (w : ℕ) (wide : 1 ≤ w) where
  some_power : (k : ℕ) → 1 ≤ s.p ^ k
  some_power zero = omega (arith, pow-zero s.p)
  some_power (suc k) = let h = mul-le-mul g.p_low (some_power k) in omega (arith, pow-succ' s.p k)

  class? : (z d : Elem) → Dec (SameClass s w z d)
  class? z d = divides? s (pow s s.β w) (s.p ^ w) (some_power w) (size_is s g (pow s s.β w) ∙ ap pos (size_pow s g w)) (sub z d)

  -- the first digit of z's class, or none
  first? : (ds : List Elem) (z : Elem) → ((d : Elem) × FirstOf s w ds z d) ⊎ Unclassed s w ds z
  first? [] z = inr (λ d h. absurd (omega (arith, h.1)))
  first? (d ∷ ds) z = by (class? z d) (first? ds z)
    where
      later : ¬ (SameClass s w z d) → (k : ℕ) → ((j : ℕ) → j < k → ¬ (SameClass s w z (slice_index_or ds j 𝟘))) → (j : ℕ) → j < suc k → ¬ (SameClass s w z (slice_index_or (d ∷ ds) j 𝟘))
      later n k m zero l = n
      later n k m (suc j) l = m j (omega arith)

      none : ¬ (SameClass s w z d) → Unclassed s w ds z → Unclassed s w (d ∷ ds) z
      none n u e (zero, l, q) a = n (subst (SameClass s w z) (sym (q 𝟘)) a)
      none n u e (suc k, l, q) a = u e (k, omega (arith, l), q) a

      by : Dec (SameClass s w z d) → ((e : Elem) × FirstOf s w ds z e) ⊎ Unclassed s w ds z → ((e : Elem) × FirstOf s w (d ∷ ds) z e) ⊎ Unclassed s w (d ∷ ds) z
      by (yes a) f = inl (d, (0, omega arith, refl, a, λ j l. absurd (omega arith)))
      by (no n) (inl f) = inl (f.0, (suc f.1.0, omega (arith, f.1.1), f.1.2, f.1.3, later n f.1.0 f.1.4))
      by (no n) (inr u) = inr (none n u)

  taken : (ds : List Elem) (z : Elem) → (r : Elem) × Remains s w ds z r
  taken ds z = by (divides? s s.β s.p (let k = g.p_low in omega arith) g.p_is z) (first? ds z)
    where
      by : Dec (Even s z) → ((d : Elem) × FirstOf s w ds z d) ⊎ Unclassed s w ds z → (r : Elem) × Remains s w ds z r
      by (yes d) f = (d.0, inl d.1)
      by (no n) (inl f) = let q = power_even s g w (sub z f.0) wide f.1.3 in (q.0, inr (n, inl (f.0, f.1, q.1)))
      by (no n) (inr u) = (𝟘, inr (n, inr (u, refl)))

  pub remainder : List Elem → Elem → Elem
  remainder ds z = (taken ds z).0

  pub remainder_is : (ds : List Elem) (z : Elem) → Remains s w ds z (remainder ds z)
  unfolding remainder
  remainder_is ds z = (taken ds z).1

  -- ---- there is one
  first_one : (ds : List Elem) (z d e : Elem) → FirstOf s w ds z d → FirstOf s w ds z e → d ≡ e
  first_one ds z d e (i, l, p, a, m) (j, k, q, b, n) = by (dec_lt i j) (dec_lt j i)
    where
      by : Dec (i < j) → Dec (j < i) → d ≡ e
      by (yes h) _ = absurd (n i h (subst (SameClass s w z) (sym p) a))
      by (no _) (yes h) = absurd (m j h (subst (SameClass s w z) (sym q) b))
      by (no h) (no o) = sym p ∙ ap (λ k. get_or ds k 𝟘) (omega arith) ∙ q

  pub is_one : (ds : List Elem) (z a b : Elem) → Remains s w ds z a → Remains s w ds z b → a ≡ b
  is_one ds z a b (inl p) (inl q) = cancel_β s g a b (p ∙ sym q)
  is_one ds z a b (inl p) (inr q) = absurd (q.0 (a, p))
  is_one ds z a b (inr p) (inl q) = absurd (p.0 (b, q))
  is_one ds z a b (inr (o, inl p)) (inr (_, inl q)) = cancel_β s g a b (p.2 ∙ ap (sub z) (first_one ds z p.0 q.0 p.1 q.1) ∙ sym q.2)
  is_one ds z a b (inr (o, inl p)) (inr (_, inr q)) = absurd (q.0 p.0 (first_held s w ds z p.0 p.1) p.1.3)
  is_one ds z a b (inr (o, inr p)) (inr (_, inl q)) = absurd (p.0 q.0 (first_held s w ds z q.0 q.1) q.1.3)
  is_one ds z a b (inr (o, inr p)) (inr (_, inr q)) = p.1 ∙ sym q.1

  pub is_zero : (ds : List Elem) (r : Elem) → Remains s w ds 𝟘 r → r ≡ 𝟘
  is_zero ds r h = is_one ds 𝟘 r 𝟘 h (inl (mul_zero s s.β))

  -- ---- it stays small
  in_range : (ds : List Digit) (k : ℕ) → k < length (elems ds) → InRange (slice_index_or (elems ds) k 𝟘)
  in_range [] k l = absurd (omega arith)
  in_range (d ∷ ds) zero l = let n = d.ranged in record { in_x = n.0; in_y = n.1 }
  in_range (d ∷ ds) (suc k) l = in_range ds k (omega arith)

  pub is_small : (ds : List Digit) (z r : Elem) → size s z ≤ 1560600 → Remains s w (elems ds) z r → size s r ≤ 1560600
  is_small ds z r h (inl p) = keeps s g 260100 1560600 (omega arith) z 𝟘 r (p ∙ sym (sub_zero z)) (omega (arith, size_zero s g)) h
  is_small ds z r h (inr (o, inl (d, f, p))) = keeps s g 260100 1560600 (omega arith) z d r p (digit_size s g d (subst InRange f.2 (in_range ds f.0 f.1))) h
  is_small ds z r h (inr (o, inr p)) = omega (arith, ap (size s) p.1 ∙ size_zero s g)
