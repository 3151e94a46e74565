-- Steps and expansions: an expansion's first entry is the step's digit and its rest expands the remainder; so it is unique, and it exists just where the trail comes to 0.
use Rattle.std.proofs.Common.{◌≡◌, ℕ, suc, ◌≢◌, List, [], ◌∷◌, pos, sym, ap, ◌∙◌, subst, ap₂, inl, inr, ⊎_elim, arith}
use lib.IntN.{ℤ_discrete}
use Rattle.ring.specs.Elem.{Elem, add, sub, 𝟘}
use Rattle.ring.specs.System.{System, Lawful, mul, pow}
use Rattle.ring.specs.Class.{SameClass, Even}
use Rattle.ring.specs.Expansion.{weighted, Expands}
use Rattle.ring.specs.Trail.{Step}
use Rattle.ring.proofs.Elements.{same, add_zero, add_of_sub, sub_of_add, sub_between, mul_assoc, mul_sub, mul_zero}
use Rattle.ring.proofs.Expansions.{cancel_β, tail, cons, head_zero, zeros, zero_nil, lifted}

pub is_zero : (z : Elem) → Dec (z ≡ 𝟘)
is_zero z = by (ℤ_discrete z.x (pos 0)) (ℤ_discrete z.y (pos 0))
  where
    by : Dec (z.x ≡ pos 0) → Dec (z.y ≡ pos 0) → Dec (z ≡ 𝟘)
    by (yes p) (yes q) = yes (same z 𝟘 p q)
    by (yes p) (no q) = no (λ e. q (ap (λ a. a.y) e))
    by (no p) d = no (λ e. p (ap (λ a. a.x) e))

module _ (s : System) (g : Lawful s) (v : ℕ) (S : Elem → Type 0) (odd : (d : Elem) → S d → ¬ (Even s d)) where
  digit_nonzero : (d : Elem) → S d → d ≢ 𝟘
  digit_nonzero d m e = odd d m (subst (Even s) (sym e) (𝟘, mul_zero s s.β))

  pub expands_step : (z e : Elem) (es : List Elem) → Expands s (suc v) S z (e ∷ es) → Step s (suc v) S z e (weighted s es)
  expands_step z e es x = ⊎_elim (λ o. inl (at_zero o)) (λ m. inr (at_digit m)) x.entries.0
    where
      at_zero : e ≡ 𝟘 → Even s z × (e ≡ 𝟘) × (mul s s.β (weighted s es) ≡ z)
      at_zero o =
          let p = sym (add_zero (mul s s.β (weighted s es))) ∙ ap (λ u. add u (mul s s.β (weighted s es))) (sym o) ∙ x.total in
          ((weighted s es, p), o, p)

      at_digit : S e → (¬ (Even s z)) × S e × SameClass s (suc v) z e × (mul s s.β (weighted s es) ≡ sub z e)
      at_digit m =
          let q = sub_of_add e (mul s s.β (weighted s es)) z x.total in
          let r = lifted s g (suc v) S v es (λ j h. ⊎_elim (λ o. absurd (digit_nonzero e m o)) (λ o. o) (x.sparse 0 (suc j) (omega arith) (omega arith))) in
          ((λ d. digit_nonzero e m (head_zero s g (suc v) S odd z e es x d)), m, (r.0, mul_assoc s s.β (pow s s.β v) r.0 ∙ ap (mul s s.β) r.1 ∙ q), q)

  pub step_expands : (z d q : Elem) (es : List Elem) → Step s (suc v) S z d q → Expands s (suc v) S q es → z ≢ 𝟘 → Expands s (suc v) S z (d ∷ es)
  step_expands z d q es (inl h) x n =
      cons s g (suc v) S z q d es x (ap (λ u. add u (mul s s.β q)) h.1 ∙ add_zero (mul s s.β q) ∙ h.2) (inl h.1)
      (λ o _. n (sym h.2 ∙ ap (mul s s.β) (sym x.total ∙ ap (weighted s) o) ∙ mul_zero s s.β))
      (λ j l. inl h.1)
  step_expands z d q es (inr h) x n =
      cons s g (suc v) S z q d es x (add_of_sub d (mul s s.β q) z h.3) (inr h.1) (λ _. digit_nonzero d h.1)
      (λ j l. inr (zeros s g (suc v) S odd v q es x
      (h.2.0, cancel_β s g (mul s (pow s s.β v) h.2.0) q (sym (mul_assoc s s.β (pow s s.β v) h.2.0) ∙ h.2.1 ∙ sym h.3)) j (omega arith)))

  module _ (one : (d e : Elem) → S d → S e → SameClass s (suc v) d e → d ≡ e) where
    -- two digits of z's class are of one class
    meet : (z d e : Elem) → SameClass s (suc v) z d → SameClass s (suc v) z e → SameClass s (suc v) d e
    meet z d e a b = (sub b.0 a.0, mul_sub s (pow s s.β (suc v)) b.0 a.0 ∙ ap₂ sub b.1 a.1 ∙ sub_between z d e)

    pub step_one : (z d d' q q' : Elem) → Step s (suc v) S z d q → Step s (suc v) S z d' q' → (d ≡ d') × (q ≡ q')
    step_one z d d' q q' (inl h) (inl k) = (h.1 ∙ sym k.1, cancel_β s g q q' (h.2 ∙ sym k.2))
    step_one z d d' q q' (inl h) (inr k) = absurd (k.0 h.0)
    step_one z d d' q q' (inr h) (inl k) = absurd (h.0 k.0)
    step_one z d d' q q' (inr h) (inr k) =
        let e = one d d' h.1 k.1 (meet z d d' h.2 k.2) in
        (e, cancel_β s g q q' (h.3 ∙ ap (sub z) e ∙ sym k.3))

    pub unique : (z : Elem) (es fs : List Elem) → Expands s (suc v) S z es → Expands s (suc v) S z fs → es ≡ fs
    unique z [] fs x y = sym (zero_nil s g (suc v) S odd fs (subst (λ u. Expands s (suc v) S u fs) (sym x.total) y))
    unique z (e ∷ es) [] x y = zero_nil s g (suc v) S odd (e ∷ es) (subst (λ u. Expands s (suc v) S u (e ∷ es)) (sym y.total) x)
    unique z (e ∷ es) (f ∷ fs) x y =
        let h = step_one z e f (weighted s es) (weighted s fs) (expands_step z e es x) (expands_step z f fs y) in
        ap₂ ◌∷◌ h.0 (unique (weighted s es) es fs (tail s g (suc v) S z e es x) (subst (λ u. Expands s (suc v) S u fs) (sym h.1) (tail s g (suc v) S z f fs y)))
