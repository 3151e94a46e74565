use Rattle.std.proofs.Common.{◌≡◌, List, [], ◌∷◌, ◌++◌, length, take, drop, sym, refl, ap, ◌∙◌, subst}
use Rattle.std.proofs.lemmas.List.{take-append-drop}
use Rattle.ring.specs.Elem.{add}
use Rattle.ring.specs.System.{mul}
use Rattle.ring.specs.Expansion.{weighted}
use Rattle.systems.specs.Named.{kp}
use Rattle.digits.specs.Digits.{elem_of}
use Rattle.recoding.specs.Walk.{digits_of}
use Rattle.recoding.specs.declared.entry.Entry.{Entry}
use Rattle.expand.proofs.weighted_sum.Goals as goal

-- a list that goes on behind ns with x
next : {X : Type 0} (ns : List X) (x : X) (t : List X) → (ns ≡ take (length ns) ((ns ++ x ∷ []) ++ t)) × (drop (length ns) ((ns ++ x ∷ []) ++ t) ≡ x ∷ t)
next [] x t = (refl, refl)
next (n ∷ ns) x t = let h = next ns x t in (ap (λ l. n ∷ l) h.0, h.1)

pub loop-entry-preserved : goal.loop-entry-preserved
loop-entry-preserved c =
    let es = c.args.entries.now in
    let rest = c.loop-entry.entry-iterator.iter.rest.now in
    let ns = c.next.new.self.iter.rest.now in
    let x = c.in-Some.entry.now in
    let t = drop (length rest) es in
    let whole : (ns ++ x ∷ []) ++ t ≡ es = ap (λ l. l ++ t) (sym c.in-Some.ensures.steps ∙ c.loop-entry.invariant.0) ∙ take-append-drop (length rest) es in
    let h = next ns x t in (
      subst (λ l. ns ≡ take (length ns) l) whole h.0,
      c.lower-sum.ensures ∙ ap (λ v. add (elem_of x.digit) (mul kp kp.β v)) c.loop-entry.invariant.1
          ∙ sym (ap (λ l. weighted kp (digits_of l)) (subst (λ l. drop (length ns) l ≡ x ∷ t) whole h.1)),
    )
