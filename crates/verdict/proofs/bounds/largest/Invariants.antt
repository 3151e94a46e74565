use Rattle.std.proofs.Common.{◌≤◌}
use Rattle.digits.specs.Digits.{elems}
use Rattle.verdict.proofs.Sizes.{Upto}
use Rattle.verdict.proofs.bounds.largest.Given as goal

abbrev pub invariant-loop-d : goal.invariant-loop-d
invariant-loop-d g l = (l.most ≤ 260100) × Upto g.S.Ruled.ring l.most (elems l.digits) l.d-index
