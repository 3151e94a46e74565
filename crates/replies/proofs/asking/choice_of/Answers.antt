use Rattle.std.proofs.Common.{◌^◌, ◌<◌, arith}
use Rattle.numerals.proofs.Digits.{counted_lt}
use Rattle.replies.proofs.asking.choice_of.Goals as goal

pub invariant_of-result : goal.invariant_of-result
invariant_of-result c =
    let q = c.in-System in
    let m : q.modulus.value < 16 ^ 12 = counted_lt _ _ q.modulus.denotes in
    let r : q.root.value < 16 ^ 12 = counted_lt _ _ q.root.denotes in
    let g : q.start.value < 16 ^ 12 = counted_lt _ _ q.start.denotes in
    record { modulus_fits = omega arith; root_fits = omega arith; start_fits = omega arith }
