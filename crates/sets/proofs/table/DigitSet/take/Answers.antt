use Rattle.std.proofs.Common.{◌≡◌, None, refl, arith}
use Rattle.std.proofs.lemmas.Result.{err_from_is_err_and}
use Rattle.refusals.specs.declared.Refusal.TheVariants.{Absent}
use Rattle.sets.proofs.Holding.{held_ranged, not_made}
use Rattle.sets.proofs.table.DigitSet.take.Goals as goal

pub returns-in_err-digit : goal.returns-in_err-digit
returns-in_err-digit c =
    let p = err_from_is_err_and c.from_residual.result c.from_residual.ensures.1 in
    let none : c.new.result ≡ None = grind arith in
    let why : c.in_err-digit.field-0.0 ≡ Absent = grind arith in
    let out = not_made c.args.x c.args.y c.ranges.x c.ranges.y c.new.result c.new.ensures none in
    rw (p.1, p.2) (λ h. out (held_ranged c.args.self.now _ h), why, refl)
