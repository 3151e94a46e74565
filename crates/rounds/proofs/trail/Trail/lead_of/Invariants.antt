use Rattle.std.proofs.Common.{◌≡◌, ℕ, ◌+◌, ◌<◌, ◌≢◌}
use Rattle.ring.specs.Elem.{Elem}
use Rattle.numbers.specs.Meaning.{short}
use Rattle.rounds.specs.Rounds.{after}
use Rattle.rounds.proofs.trail.Trail.lead_of.Given as goal

abbrev pub invariant-loop-lead : goal.invariant-loop-lead
invariant-loop-lead g l =
    let at : ℕ → Elem = λ k. after (g.D.Dynamics.next l.self.map.now) k (short l.self.first.element) in
    (short l.behind ≡ at l.lead)
    × (short l.ahead ≡ at (l.lead + l.cycle.period))
    × ((i : ℕ) → i < l.lead → at (i + l.cycle.period) ≢ at i)
