use Rattle.std.proofs.Common.{rules, tests}
use Rattle.std.proofs.lemmas.Iterator.{first_from_find, YieldsList-from_slice}
use Rattle.ring.specs.Class.{SameClass}
use Rattle.numbers.specs.Meaning.{short}
use Rattle.digits.specs.Digits.{elem_of}
use Rattle.digits.proofs.Listed.{first, of_copied}
use Rattle.digits.proofs.numeration.Numeration.digit_of.Goals as goal

pub returns : goal.returns
returns g c =
    let s = g.S.Ruled.ring in
    let w = c.args.self.now.width.places in
    let ds = c.args.self.now.digits.now in
    let r = first_from_find _ _ _ (λ d. SameClass s w (short c.args.a) (elem_of d)) (λ d. ¬ (SameClass s w (short c.args.a) (elem_of d))) c.find.ensures.ran (YieldsList-from_slice ds c.iter.ensures.rest) (λ x q k. search (rules, tests)) (λ x q k. search (rules, tests)) in
    first s w (short c.args.a) ds c.copied.result (of_copied c.find.result c.copied.result _ _ c.copied.ensures r)
