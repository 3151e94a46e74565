use Rattle.numbers.specs.Meaning.{short}
use Rattle.rounds.proofs.Trails.{kept}
use Rattle.rounds.proofs.trail.Trail.advance.Goals as goal

pub step-ahead-requires : goal.step-ahead-requires
step-ahead-requires g c =
    let t = c.args.self.now in
    let d = t.map.now in
    kept (g.D.Dynamics.next d) (short t.first.element) (g.D.Dynamics.ring d) (g.D.Dynamics.cap d) (g.D.Dynamics.closed d) t.inside c.loop.counter _ c.loop.invariant
