use Rattle.std.proofs.Common.{rules, tests}
use Rattle.std.proofs.lemmas.Iterator.{cases_from_all, YieldsList-from_slice}
use Rattle.ring.specs.Class.{Even}
use Rattle.digits.specs.Digits.{elem_of}
use Rattle.digits.proofs.Listed.{decided}
use Rattle.digits.proofs.numeration.Numeration.all_odd.Goals as goal

pub returns : goal.returns
returns g c =
    let s = g.S.Ruled.ring in
    let ds = c.args.self.now.digits.now in
    let r = cases_from_all _ _ _ (λ d. ¬ (Even s (elem_of d))) (λ d. Even s (elem_of d)) c.all.ensures.ran (YieldsList-from_slice ds c.iter.ensures.rest) (λ x q k. search (rules, tests)) (λ x q k. search (rules, tests)) in
    decided (λ e. ¬ (Even s e)) (Even s) ds c.all.result (λ e n y. n y) r
