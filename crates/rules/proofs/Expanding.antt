-- Expansions over a full set, at every width from 1: what a step leaves of one, and when none is left.
use Rattle.std.proofs.Common.{◌≡◌, ℕ, zero, suc, ◌^◌, ◌<◌, ◌≤◌, ◌≢◌, List, [], ◌∷◌, ◌++◌, length, sym, refl, ap, ◌∙◌, subst, inl, inr, append-nil, arith}
use Rattle.ring.specs.Elem.{Elem, add, 𝟘, Below}
use Rattle.ring.specs.System.{System, Lawful, mul, pow}
use Rattle.ring.specs.Class.{InRange, Full}
use Rattle.ring.specs.Expansion.{weighted, Expands}
use Rattle.ring.specs.Trail.{Step}
use Rattle.ring.proofs.Elements.{add_assoc, add_zero, add_of_sub, mul_add, mul_assoc, mul_comm}
use Rattle.ring.proofs.Expansions.{tail, zero_nil}
use Rattle.ring.proofs.Steps.{expands_step, step_one, unique}
use Rattle.ring.proofs.Sums.{weighted_push}
use Rattle.ring.proofs.Lengths.{length_fits}

pub length_push : (ds : List Elem) (d : Elem) → length (ds ++ d ∷ []) ≡ suc (length ds)
length_push [] d = refl
length_push (x ∷ xs) d = ap suc (length_push xs d)

module _ (s : System) (w : ℕ) (S : Elem → Type 0) where
  -- a step splits the element
  pub step_sum : (z d r : Elem) → Step s w S z d r → z ≡ add d (mul s s.β r)
  step_sum z d r (inl h) = sym (ap (λ u. add u (mul s s.β r)) h.1 ∙ add_zero (mul s s.β r) ∙ h.2)
  step_sum z d r (inr h) = sym (add_of_sub d (mul s s.β r) z h.3)

  -- the sum after a step
  pub sum_more : (ds : List Elem) (n z d r : Elem) → n ≡ add (weighted s ds) (mul s (pow s s.β (length ds)) z) → Step s w S z d r → n ≡ add (weighted s (ds ++ d ∷ [])) (mul s (pow s s.β (length (ds ++ d ∷ []))) r)
  sum_more ds n z d r e q =
      let b = s.β in
      let W = weighted s ds in
      let X = weighted s (ds ++ d ∷ []) in
      let P = pow s b (length ds) in
      e
      ∙ ap (λ u. add W (mul s P u)) (step_sum z d r q)
      ∙ ap (add W) (mul_add s P d (mul s b r))
      ∙ sym (add_assoc W (mul s P d) (mul s P (mul s b r)))
      ∙ ap (λ u. add (add W u) (mul s P (mul s b r))) (mul_comm s P d)
      ∙ ap (λ u. add u (mul s P (mul s b r))) (sym (weighted_push s ds d))
      ∙ ap (add X) (sym (mul_assoc s P b r) ∙ ap (λ u. mul s u r) (mul_comm s P b))
      ∙ ap (λ j. add X (mul s (pow s b j) r)) (sym (length_push ds d))

append_same : (xs ys : List Elem) → xs ≡ xs ++ ys → ys ≡ []
append_same [] ys e = sym e
append_same (x ∷ xs) ys e = append_same xs ys (cc)

module _ (s : System) (g : Lawful s) (S : Elem → Type 0) where
  pub one_expansion : (w : ℕ) → 1 ≤ w → Full s w S → (z : Elem) (es fs : List Elem) → Expands s w S z es → Expands s w S z fs → es ≡ fs
  one_expansion zero h = absurd (omega arith)
  one_expansion (suc v) h = λ full. unique s g v S full.odd full.one

  -- the first entry is the digit of the step
  pub first_step : (w : ℕ) → 1 ≤ w → Full s w S → (z e : Elem) (es : List Elem) → Expands s w S z (e ∷ es) → Step s w S z e (weighted s es)
  first_step zero h = absurd (omega arith)
  first_step (suc v) h = λ full. expands_step s g v S full.odd

  one_step : (w : ℕ) → 1 ≤ w → Full s w S → (z c d q r : Elem) → Step s w S z c q → Step s w S z d r → (c ≡ d) × (q ≡ r)
  one_step zero h = absurd (omega arith)
  one_step (suc v) h = λ full. step_one s g v S full.odd full.one

  pub length_small : (w : ℕ) → 1 ≤ w → Full s w S → ((d : Elem) → S d → InRange d) → (z : Elem) (es : List Elem) → Below (2 ^ 56) z → Expands s w S z es → length es < 2 ^ 32
  length_small zero h = absurd (omega arith)
  length_small (suc v) h = length_fits s g v S

  module _ (w : ℕ) (some : 1 ≤ w) (full : Full s w S) where
    -- an expansion of what is left goes on with the digit of the step
    pub stepped : (es : List Elem) (z d r : Elem) → Expands s w S z es → z ≢ 𝟘 → Step s w S z d r → (fs : List Elem) × (es ≡ d ∷ fs) × Expands s w S r fs
    stepped [] z d r x h q = absurd (h (sym x.total))
    stepped (e ∷ es) z d r x h q =
        let o = one_step w some full z e d (weighted s es) r (first_step w some full z e es x) q in
        (es, (λ i. o.0 i ∷ es), subst (λ u. Expands s w S u es) o.1 (tail s g w S z e es x))

    -- from what has an expansion and is not 0 a step can be taken
    pub can_step : (es : List Elem) (z : Elem) → Expands s w S z es → z ≢ 𝟘 → (d r : Elem) × Step s w S z d r
    can_step [] z x h = absurd (h (sym x.total))
    can_step (e ∷ es) z x h = (e, weighted s es, first_step w some full z e es x)

    -- what has no remainder left is all, and what is all has none
    module _ (ds rest : List Elem) (n z : Elem) (is : Expands s w S n (ds ++ rest)) (over : Expands s w S z rest) where
      pub all_of : z ≡ 𝟘 → Expands s w S n ds
      all_of e =
          let none : rest ≡ [] = zero_nil s g w S full.odd rest (subst (λ u. Expands s w S u rest) e over) in
          subst (Expands s w S n) (ap (λ l. ds ++ l) none ∙ append-nil ds) is

      pub none_left : Expands s w S n ds → z ≡ 𝟘
      none_left x =
          let none : rest ≡ [] = append_same ds rest (one_expansion w some full n ds (ds ++ rest) x is) in
          sym over.total ∙ ap (weighted s) none
