use Rattle.std.proofs.Common.{◌≡◌}
use Rattle.numbers.specs.Meaning.{short}
use Rattle.rounds.specs.Rounds.{after}
use Rattle.rounds.proofs.trail.Trail.advance.Given as goal

abbrev pub invariant-loop : goal.invariant-loop
invariant-loop g l = short l.ahead ≡ after (g.D.Dynamics.next l.self.map.now) l.counter (short l.self.first.element)
