use Rattle.std.proofs.Common.{◌≡◌, ◌+◌, ◌-◌, ◌*◌, ◌<◌, ◌≤◌}
use Rattle.ring.specs.Verdict.{Before}
use Rattle.numbers.specs.Meaning.{short}
use Rattle.rounds.specs.Rounds.{after}
use Rattle.rounds.proofs.Trails.{Gone}
use Rattle.rounds.proofs.trail.Trail.find_cycle.Given as goal

abbrev pub invariant-follow : goal.invariant-follow
invariant-follow g l =
    let d = l.self.map.now in
    (short l.mark ≡ after (g.D.Dynamics.next d) (l.power - 1) (short l.self.first.element))
    × Gone (g.D.Dynamics.next d) (short l.mark) l.gone (short l.hare)
    × ¬ (Before (g.D.Dynamics.ring d) (short l.mark) (short l.self.first.element))
    × (l.gone < l.power)
    × (l.power ≤ 2 * (2921 * 2921))

abbrev pub decreases-follow : goal.decreases-follow
decreases-follow g l = 4 * (2921 * 2921) - (l.power + l.gone)
