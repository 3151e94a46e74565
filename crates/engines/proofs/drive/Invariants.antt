use Rattle.std.proofs.Common.{◌≡◌, take}
use Rattle.ring.specs.System.{pow}
use Rattle.ring.specs.Expansion.{weighted}
use Rattle.engine.specs.Meaning.{act}
use Rattle.engine.specs.Rings.{Over}
use Rattle.digits.specs.Digits.{elems}
use Rattle.engines.proofs.drive.Given as goal

abbrev pub invariant-loop-d : goal.invariant-loop-d
invariant-loop-d g l =
    let e = g.E.PointEngine.machine in
    let s = g.S.Ruled.ring in
    let m = e.meaning l.initial.engine in
    record {
      same : e.meaning l.engine ≡ m;
      total : Over s m → e.total_of l.engine ≡ act m (weighted s (take l.d-index (elems l.digits))) m.start;
      current : Over s m → e.current_of l.engine ≡ act m (pow s s.β l.d-index) m.start;
    }
