use Rattle.std.proofs.Common.{◌<◌, length, arith}
use Rattle.numerals.proofs.Digits.{so_far, value_more, under_more, no_digit}
use Rattle.numerals.proofs.natural.Goals as goal

pub overflow_mul-n : goal.overflow_mul-n
overflow_mul-n c = omega (arith, so_far c.args.bs.now c.loop-b.b-index _ (omega arith) (omega arith) c.loop-b.invariant)

pub overflow_add-n : goal.overflow_add-n
overflow_add-n c =
    omega (arith, so_far c.args.bs.now c.loop-b.b-index _ (omega arith) (omega arith) c.loop-b.invariant, c.in_ok-digit.ensures, c.from.ensures)

pub returns-in_err-digit : goal.returns-in_err-digit
returns-in_err-digit c =
    rw c.from_residual.ensures (λ n p. no_digit c.args.bs.now c.loop-b.b-index (omega arith) c.in_err-digit.ensures p.0)

pub loop-b-preserved : goal.loop-b-preserved
loop-b-preserved c =
    let bs = c.args.bs.now in
    let i = c.loop-b.b-index in
    let lt : i < length bs = omega arith in
    let d = c.in_ok-digit.ensures in
    (omega (arith, value_more bs i lt, c.from.ensures), under_more bs i lt c.loop-b.invariant.1 (omega arith))
