-- Expansions: the first entry and the rest, uniqueness, and the steps.
use Rattle.std.proofs.Common.{◌≡◌, ℕ, zero, suc, ◌+◌, ◌<◌, ◌≢◌, ◌⊎◌, List, [], ◌∷◌, get_or, pos, ◌≤ℤ◌, sym, refl, ap, ◌∙◌, subst, inl, ⊎_elim, arith}
use Rattle.ring.specs.Elem.{Elem, add, sub, 𝟘}
use Rattle.ring.specs.System.{System, Lawful, mul, norm, pow}
use Rattle.ring.specs.Class.{Divides, Even}
use Rattle.ring.specs.Expansion.{weighted, LastNonzero, Expands}
use Rattle.ring.proofs.Orders.{ord}
use Rattle.ring.proofs.Elements.{add_zero, mul_assoc, mul_one, mul_zero, sum_divides}
use Rattle.ring.proofs.Norms.{cancel}

module _ (s : System) (g : Lawful s) where
  pub base : pos 1 ≤ℤ norm s s.β
  base = let h = g.p_is in let k = g.p_low in omega (arith, ord)

  pub cancel_β : (a c : Elem) → mul s s.β a ≡ mul s s.β c → a ≡ c
  cancel_β a c = cancel s s.β a c base

module _ (s : System) (g : Lawful s) (w : ℕ) (S : Elem → Type 0) where
  pub nil : Expands s w S 𝟘 []
  nil = record { total = refl; entries = tt; last = tt; sparse = λ i j h k. inl refl }

  pub last_tail : (e : Elem) (es : List Elem) → LastNonzero (e ∷ es) → LastNonzero es
  last_tail e [] h = tt
  last_tail e (f ∷ es) h = h

  pub last_cons : (e : Elem) (es : List Elem) → (es ≡ [] → e ≢ 𝟘) → LastNonzero es → LastNonzero (e ∷ es)
  last_cons e [] h k = h refl
  last_cons e (f ∷ es) h k = k

  pub tail : (z e : Elem) (es : List Elem) → Expands s w S z (e ∷ es) → Expands s w S (weighted s es) es
  tail z e es x = record { total = refl; entries = x.entries.1; last = last_tail e es x.last; sparse = λ i j h k. x.sparse (suc i) (suc j) (omega arith) (omega arith) }

  pub cons : (z q e : Elem) (es : List Elem) → Expands s w S q es → add e (mul s s.β q) ≡ z → (e ≡ 𝟘) ⊎ S e → (es ≡ [] → e ≢ 𝟘) → ((j : ℕ) → suc j < w → (e ≡ 𝟘) ⊎ (get_or es j 𝟘 ≡ 𝟘)) → Expands s w S z (e ∷ es)
  cons z q e es x h k l m = record { total = ap (λ v. add e (mul s s.β v)) x.total ∙ h; entries = (k, x.entries); last = last_cons e es l x.last; sparse = by }
    where
      by : (i j : ℕ) → i < j → j < i + w → (get_or (e ∷ es) i 𝟘 ≡ 𝟘) ⊎ (get_or (e ∷ es) j 𝟘 ≡ 𝟘)
      by zero zero a b = absurd (omega arith)
      by zero (suc j) a b = m j (omega arith)
      by (suc i) zero a b = absurd (omega arith)
      by (suc i) (suc j) a b = x.sparse i j (omega arith) (omega arith)

  module _ (odd : (d : Elem) → S d → ¬ (Even s d)) where
    pub head_zero : (z e : Elem) (es : List Elem) → Expands s w S z (e ∷ es) → Even s z → e ≡ 𝟘
    head_zero z e es x d = ⊎_elim (λ h. h) (λ h. absurd (odd e h (sub d.0 (weighted s es), sum_divides s s.β d.0 (weighted s es) e (x.total ∙ sym d.1)))) x.entries.0

    -- the rest's weighted, where the first entry is 0
    pub rest : (z q e : Elem) (es : List Elem) → Expands s w S z (e ∷ es) → mul s s.β q ≡ z → weighted s es ≡ q
    rest z q e es x h = cancel_β s g (weighted s es) q (sym (add_zero (mul s s.β (weighted s es))) ∙ ap (λ u. add u (mul s s.β (weighted s es))) (sym (head_zero z e es x (q, h))) ∙ x.total ∙ sym h)

    -- a multiple of βᵏ begins with k zeros
    pub zeros : (k : ℕ) (z : Elem) (es : List Elem) → Expands s w S z es → Divides s (pow s s.β k) z → (j : ℕ) → j < k → get_or es j 𝟘 ≡ 𝟘
    zeros k z [] x d j h = refl
    zeros zero z (e ∷ es) x d j h = absurd (omega arith)
    zeros (suc k) z (e ∷ es) x d zero h = head_zero z e es x (mul s (pow s s.β k) d.0, sym (mul_assoc s s.β (pow s s.β k) d.0) ∙ d.1)
    zeros (suc k) z (e ∷ es) x d (suc j) h =
        zeros k (weighted s es) es (tail z e es x)
        (d.0, sym (rest z (mul s (pow s s.β k) d.0) e es x (sym (mul_assoc s s.β (pow s s.β k) d.0) ∙ d.1))) j (omega arith)

    -- only the empty list expands 0
    pub zero_nil : (es : List Elem) → Expands s w S 𝟘 es → es ≡ []
    zero_nil [] x = refl
    zero_nil (e ∷ es) x =
        let v = rest 𝟘 𝟘 e es x (mul_zero s s.β) in
        let h = zero_nil es (subst (λ u. Expands s w S u es) v (tail 𝟘 e es x)) in
        absurd (subst (λ l. LastNonzero (e ∷ l)) h x.last (head_zero 𝟘 e es x (𝟘, mul_zero s s.β)))

  -- k zeros in front make a multiple of βᵏ
  pub lifted : (k : ℕ) (es : List Elem) → ((j : ℕ) → j < k → get_or es j 𝟘 ≡ 𝟘) → Divides s (pow s s.β k) (weighted s es)
  lifted zero es h = (weighted s es, mul_one s (weighted s es))
  lifted (suc k) [] h = (𝟘, mul_zero s (pow s s.β (suc k)))
  lifted (suc k) (e ∷ es) h =
      let r = lifted k es (λ j l. h (suc j) (omega arith)) in
      (r.0, mul_assoc s s.β (pow s s.β k) r.0 ∙ ap (mul s s.β) r.1 ∙ sym (add_zero (mul s s.β (weighted s es))) ∙ ap (λ u. add u (mul s s.β (weighted s es))) (sym (h 0 (omega arith))))
