-- The weighted sum of a list with one entry more.
use Rattle.std.proofs.Common.{◌≡◌, List, [], ◌∷◌, ◌++◌, length, sym, ap, ◌∙◌}
use Rattle.ring.specs.Elem.{Elem, add, 𝟘, 𝟙}
use Rattle.ring.specs.System.{System, mul, pow}
use Rattle.ring.specs.Expansion.{weighted}
use Rattle.ring.proofs.Elements.{add_assoc, add_comm, mul_add, mul_assoc, mul_comm, mul_one, mul_zero}

module _ (s : System) where
  swap : (a b c : Elem) → mul s a (mul s b c) ≡ mul s b (mul s a c)
  swap a b c = sym (mul_assoc s a b c) ∙ ap (λ k. mul s k c) (mul_comm s a b) ∙ mul_assoc s b a c

  pub weighted_push : (es : List Elem) (e : Elem) → weighted s (es ++ e ∷ []) ≡ add (weighted s es) (mul s e (pow s s.β (length es)))
  weighted_push [] e =
      ap (add e) (mul_zero s s.β) ∙ add_comm e 𝟘 ∙ ap (add 𝟘) (sym (mul_one s e) ∙ mul_comm s 𝟙 e)
  weighted_push (f ∷ es) e =
      let b = s.β in
      let W = weighted s es in
      let P = pow s b (length es) in
      ap (λ k. add f (mul s b k)) (weighted_push es e) ∙ ap (add f) (mul_add s b W (mul s e P)) ∙ sym (add_assoc f (mul s b W) (mul s b (mul s e P))) ∙ ap (add (add f (mul s b W))) (swap b e P)
