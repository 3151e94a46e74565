use Rattle.std.proofs.Common.{◌≡◌, None, refl, subst, inl, inr, arith, rules}
use Rattle.std.proofs.lemmas.Option.{MatchOption-at_none}
use Rattle.std.proofs.lemmas.Result.{err_from_is_err_and}
use Rattle.digits.specs.Digits.{elems}
use Rattle.digits.specs.Stepping.{Stuck}
use Rattle.numbers.specs.Meaning.{meaning}
use Rattle.refusals.specs.declared.Refusal.TheVariants.{Idle}
use Rattle.sets.specs.Held.{held, width_of}
use Rattle.rules.specs.declared.calls.Standing.TheVariants.{Running}
use Rattle.rules.proofs.Serving.{stuck_stops}
use Rattle.unit.proofs.unit.Unit.tick.Goals as goal

pub returns-in_err-digit-clause-told : goal.returns-in_err-digit-clause-told
returns-in_err-digit-clause-told g c =
    let p = err_from_is_err_and c.from_residual.result c.from_residual.ensures.1 in
    let s = g.S.Ruled.ring in
    let limit = g.S.Kind.Coordinate.WORKING in
    let a = c.args.self.now.set in
    let z = meaning g.S.Kind.Coordinate.value c.args.self.now.remainder in
    let none : c.step.result ≡ None = grind arith in
    let why : c.in_err-digit.field-0.0 ≡ Idle = grind arith in
    let on : c.args.self.now.standing ≡ Running = search rules in
    let stuck : Stuck s limit (width_of a) (held a) z =
    subst (λ w. Stuck s limit w (held a) z) c.numeration.ensures.width (subst (λ ds. Stuck s limit c.numeration.result.width.places ds z) c.numeration.ensures.digits (MatchOption-at_none _ _ none c.step.ensures)) in
    rw (p.1, p.2) (record { why = inr (why, inl (stuck_stops s limit (width_of a) (held a) z stuck), ((λ n. n on), tt)); same = refl })
