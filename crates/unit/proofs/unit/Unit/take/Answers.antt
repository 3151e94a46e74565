use Rattle.std.proofs.Common.{◌≡◌, refl, subst, rules}
use Rattle.sets.specs.Changes.{Taken}
use Rattle.sets.proofs.Holding.{passed_on}
use Rattle.rules.specs.declared.calls.Standing.TheVariants.{Running}
use Rattle.unit.proofs.Changes.{takes}
use Rattle.unit.proofs.unit.Unit.take.Goals as goal

pub returns-clause-told : goal.returns-clause-told
returns-clause-told g c =
    let a = c.args.self.now.set in
    let b = c.take.new.self in
    let is = passed_on c.args.x c.args.y c.ranges.x c.ranges.y in
    let idle : ¬ (c.args.self.now.standing ≡ Running) = search rules in
    takes _ _ _ _ idle a b refl refl c.args.x c.args.y c.in_ok-held.held a.once (subst (λ z. Taken a b z c.in_ok-held.held) is c.in_ok-held.ensures) refl
