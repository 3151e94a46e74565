use Rattle.std.proofs.Common.{◌-◌, ◌^◌}
use Rattle.ring.specs.System.{pow}
use Rattle.ring.specs.Class.{Divides}
use Rattle.numbers.specs.Meaning.{short}
use Rattle.digits.proofs.Powers.{Inside}
use Rattle.digits.proofs.numeration.Numeration.same_class.Given as goal

abbrev pub invariant-loop-k : goal.invariant-loop-k
invariant-loop-k g l =
    let s = g.S.Ruled.ring in
    Inside s (2 ^ 28) (short l.rest)
    × (Divides s (pow s s.β (l.k-end - l.k)) (short l.rest) → Divides s (pow s s.β l.k-end) (short l.initial.rest))
    × (Divides s (pow s s.β l.k-end) (short l.initial.rest) → Divides s (pow s s.β (l.k-end - l.k)) (short l.rest))
