use Rattle.std.proofs.Common.{◌≡◌, take, drop}
use Rattle.numbers.specs.Meaning.{meaning}
use Rattle.digits.specs.Digits.{elems}
use Rattle.recoding.specs.Walk.{Leads}
use Rattle.recoding.proofs.recode.expand.Given as goal

abbrev pub invariant-loop-k : goal.invariant-loop-k
invariant-loop-k g l =
    Leads g.C.Coordinate.value g.S.Ruled.ring l.numeration.width.places (elems l.numeration.digits.now) (meaning g.C.Coordinate.value l.initial.rest) (take l.k l.entries) (meaning g.C.Coordinate.value l.rest)
    × (drop l.k l.entries ≡ drop l.k l.initial.entries)
