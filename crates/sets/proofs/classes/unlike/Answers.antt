use Rattle.std.proofs.Common.{◌≡◌, false, get_or, sym, refl, ◌∙◌, subst, subst₂, arith, below_more}
use Rattle.std.proofs.lemmas.Bool.{both_ways}
use Rattle.ring.specs.Elem.{𝟘}
use Rattle.ring.specs.Class.{SameClass}
use Rattle.numbers.specs.Meaning.{short}
use Rattle.digits.specs.Digits.{elems}
use Rattle.digits.proofs.Listed.{length_elems, elem_at}
use Rattle.sets.proofs.Holding.{front, front_has, numbered, some_found, none_found}
use Rattle.sets.proofs.Distinct.{flip_class}
use Rattle.sets.proofs.classes.unlike.Given as given
use Rattle.sets.proofs.classes.unlike.Goals as goal
use Rattle.sets.proofs.classes.unlike.Goals.{After-digit_of}

-- the element that is looked for stands at i
here : (g : given.Over) (c : goal.After-digit_of g) → short c.element.result ≡ get_or (elems c.args.numeration.digits.now) c.loop-i.i 𝟘
here g c = c.element.ensures.is ∙ sym (elem_at c.args.numeration.digits.now c.digit-item.result c.loop-i.i c.loop-i-test.true (sym c.digit-item.is))

pub returns-then-is_some : goal.returns-then-is_some
returns-then-is_some g c =
    let s = g.S.Ruled.ring in
    let w = c.args.numeration.width.places in
    let ds = c.args.numeration.digits.now in
    let i = c.loop-i.i in
    let f = (some_found _ _ c.digit_of.result (sym c.is_some.ensures ∙ c.if-is_some.true) c.digit_of.ensures).1 in (
      λ e. absurd (both_ways false refl e),
      λ u. absurd (u f.0 i (omega (arith, f.1, numbered ds i (omega (arith, c.loop-i-test.true)))) (omega (arith, length_elems ds, c.loop-i-test.true))
          (flip_class s w (get_or (elems ds) i 𝟘) (get_or (elems ds) f.0 𝟘) (subst₂ (SameClass s w) (here g (goal.at.returns-then-is_some g c).After-digit_of) (sym f.2 ∙ front ds i f.0 (omega (arith, f.1, numbered ds i (omega (arith, c.loop-i-test.true))))) f.3))),
    )

pub loop-i-preserved : goal.loop-i-preserved
loop-i-preserved g c =
    let s = g.S.Ruled.ring in
    let w = c.args.numeration.width.places in
    let ds = c.args.numeration.digits.now in
    let i = c.loop-i.i in
    below_more _ _ c.loop-i.invariant (λ n h a. none_found _ _ c.digit_of.result (sym c.is_some.ensures ∙ c.if-is_some.false) c.digit_of.ensures (get_or (elems ds) n 𝟘) (front_has ds i n h (omega (arith, c.loop-i-test.true)))
    (subst (λ z. SameClass s w z (get_or (elems ds) n 𝟘)) (sym (here g (goal.at.loop-i-preserved g c).After-digit_of)) (flip_class s w (get_or (elems ds) n 𝟘) (get_or (elems ds) i 𝟘) a)))

pub returns : goal.returns
returns g c = (λ _ i j l m. c.loop-i.invariant j (omega (arith, length_elems c.args.numeration.digits.now, c.loop-i-test.false)) i l, λ _. refl)
