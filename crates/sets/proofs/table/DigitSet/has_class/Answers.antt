use Rattle.std.proofs.Common.{sym, subst}
use Rattle.std.specs.List.{ContainsAt as Has}
use Rattle.ring.specs.Class.{SameClass}
use Rattle.numbers.specs.Meaning.{short}
use Rattle.digits.specs.Digits.{elem_of, elems}
use Rattle.digits.specs.declared.digit.Digit.{Digit}
use Rattle.digits.proofs.Firsts.{first_held}
use Rattle.sets.proofs.Holding.{found}
use Rattle.sets.proofs.table.DigitSet.has_class.Goals as goal

pub returns : goal.returns
returns g c =
    let s = g.S.Ruled.ring in
    let w = c.numeration.result.width.places in
    let ds = elems c.numeration.result.digits.now in
    let z = short c.element.result in
    found c.digit_of.result c.is_some.result c.is_some.ensures
    (λ n h. n h.0 (subst (λ l. Has l h.0) (sym c.numeration.ensures.digits) h.1) (subst (λ a. SameClass s w a h.0) (sym c.element.ensures.is) (subst (λ v. SameClass s v (elem_of c.args.digit) h.0) (sym c.numeration.ensures.width) h.2)))
    (λ (d : Digit) f. (elem_of d, subst (λ l. Has l (elem_of d)) c.numeration.ensures.digits (first_held s w ds z (elem_of d) f), subst (λ v. SameClass s v (elem_of c.args.digit) (elem_of d)) c.numeration.ensures.width (subst (λ a. SameClass s w a (elem_of d)) c.element.ensures.is f.3)))
    c.digit_of.ensures
