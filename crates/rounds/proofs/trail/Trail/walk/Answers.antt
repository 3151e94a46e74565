use Rattle.numbers.specs.Meaning.{short}
use Rattle.rounds.proofs.Trails.{lead_period}
use Rattle.rounds.proofs.trail.Trail.walk.Goals as goal

pub returns : goal.returns
returns g c =
    let t = c.args.self.now in
    let d = t.map.now in
    let b = c.in_ok-cycle.ensures in
    let e = c.in_ok-cycle.was in
    let f = c.find_cycle.ensures in (
      lead_period (g.D.Dynamics.next d) (short t.first.element) (g.D.Dynamics.ring d) _ _ c.lead_of.result b c.lead_of.ensures,
      (c.in_ok-cycle.cycle.from, (c.in_ok-cycle.cycle.period, b.some, b.back), b.late),
    )
