use Rattle.std.proofs.Common.{◌≡◌, ◌≤◌, length, refl, ap, subst, arith, rules}
use Rattle.std.proofs.lemmas.Result.{err_from_is_err_and}
use Rattle.numbers.specs.Meaning.{meaning}
use Rattle.sets.specs.Changes.{Unput, Puttable, Added}
use Rattle.sets.specs.Held.{held, width_of}
use Rattle.sets.proofs.Holding.{number, passed_on}
use Rattle.rules.specs.declared.calls.Standing.TheVariants.{Running}
use Rattle.unit.proofs.Changes.{puts, put_refused}
use Rattle.unit.proofs.unit.Unit.put.Goals as goal

pub returns-clause-told : goal.returns-clause-told
returns-clause-told g c =
    let a = c.args.self.now.set in
    let b = c.put.new.self in
    let h = c.in_ok-held.ensures in
    let is = passed_on c.args.x c.args.y c.ranges.x c.ranges.y in
    let idle : ¬ (c.args.self.now.standing ≡ Running) = search rules in
    puts _ _ _ _ idle a b refl refl c.args.x c.args.y c.in_ok-held.held
    (subst (Puttable g.S.Ruled.ring (width_of a) (held a)) is h.0) (subst (λ z. Added a b z c.in_ok-held.held) is h.1) refl

pub returns-in_err-held-clause-told : goal.returns-in_err-held-clause-told
returns-in_err-held-clause-told g c =
    let p = err_from_is_err_and c.from_residual.result c.from_residual.ensures.1 in
    let a = c.args.self.now.set in
    let u = c.args.self.now in
    let h = c.in_err-held.ensures in
    let is = passed_on c.args.x c.args.y c.ranges.x c.ranges.y in
    let idle : ¬ (u.standing ≡ Running) = search rules in
    let most : length (held a) ≤ 128 = omega (arith, number a, a.most) in
    rw (p.1, p.2)
    (put_refused _ _ _ _ idle a a refl refl c.args.x c.args.y c.in_err-held.field-0.0 most (subst (λ z. Unput g.S.Ruled.ring (width_of a) (held a) z c.in_err-held.field-0.0) is h.0)
    (ap (λ s. record { width = width_of s; digits = held s; standing = u.standing; ticks = u.ticks; remainder = meaning g.S.Kind.Coordinate.value u.remainder; verdict = u.verdict; engine = u.engine }) h.1))
