use Rattle.std.proofs.Common.{◌≡◌, ◌<◌, length, subst, rules, tests}
use Rattle.std.specs.Prelude.{MatchOption}
use Rattle.std.specs.List.{ContainsAt as Has, HoldsAt}
use Rattle.std.proofs.lemmas.Iterator.{IsFirst-from_position, YieldsList-from_slice}
use Rattle.digits.specs.Digits.{elem_of}
use Rattle.sets.proofs.Holding.{placed}
use Rattle.sets.proofs.table.DigitSet.place_of.Goals as goal

pub returns : goal.returns
returns c =
    let ds = c.as_slice.result.now in
    let z = elem_of c.args.digit in
    let r = IsFirst-from_position _ _ _ (λ d. elem_of d ≡ elem_of c.args.digit) (λ d. elem_of d ≡ elem_of c.args.digit → ⊥) c.position.ensures.ran (YieldsList-from_slice ds c.iter.ensures.rest) (λ x q k. search (rules, tests)) (λ x q k. search (rules, tests)) in
    subst (λ l. MatchOption c.position.result (Has l z → ⊥) (λ i. (i < length l) × HoldsAt (λ e. e ≡ z) l i)) c.as_slice.ensures (placed z ds c.position.result r)
