-- What a sink is given: one text after another.
use Rattle.std.proofs.Common.{List, ℕ, [], ◌++◌, Some, None, Option, sym, ap, ◌∙◌, append_assoc, append-nil}
use Rattle.replies.specs.Sinks.{Given}

-- of what sinks hold
then : (x y z : Option (List ℕ)) (s t : List ℕ) → Given (λ o. o) x y s → Given (λ o. o) y z t → Given (λ o. o) x z (s ++ t)
then (Some x) (Some y) (Some z) s t p q = q ∙ ap (λ l. l ++ t) p ∙ append_assoc x s t
then x y None s t p q = tt
then x None (Some z) s t p q = absurd q
then None (Some y) (Some z) s t p q = absurd p

nothing : (x : Option (List ℕ)) → Given (λ o. o) x x []
nothing (Some x) = sym (append-nil x)
nothing None = tt

module _ {K : Type 0} (held : K → Option (List ℕ)) where
  -- one text after the other
  pub given_then : (a b c : K) (s t : List ℕ) → Given held a b s → Given held b c t → Given held a c (s ++ t)
  given_then a b c = then (held a) (held b) (held c)

  -- no text at all
  pub given_none : (a : K) → Given held a a []
  given_none a = nothing (held a)
