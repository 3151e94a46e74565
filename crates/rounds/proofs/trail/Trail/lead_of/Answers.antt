use Rattle.std.proofs.Common.{◌+◌, ◌≢◌, sym, ap, ◌∙◌, arith, below_more}
use Rattle.numbers.specs.Meaning.{short}
use Rattle.rounds.specs.Rounds.{after}
use Rattle.rounds.proofs.Orders.{apart}
use Rattle.rounds.proofs.Trails.{more, kept}
use Rattle.rounds.proofs.trail.Trail.lead_of.Goals as goal

pub step-behind-requires : goal.step-behind-requires
step-behind-requires g c =
    let t = c.args.self.now in
    let d = t.map.now in
    kept (g.D.Dynamics.next d) (short t.first.element) (g.D.Dynamics.ring d) (g.D.Dynamics.cap d) (g.D.Dynamics.closed d) t.inside c.loop-lead.lead _ c.loop-lead.invariant.0

pub step-ahead-requires : goal.step-ahead-requires
step-ahead-requires g c =
    let t = c.args.self.now in
    let d = t.map.now in
    kept (g.D.Dynamics.next d) (short t.first.element) (g.D.Dynamics.ring d) (g.D.Dynamics.cap d) (g.D.Dynamics.closed d) t.inside (c.loop-lead.lead + c.args.cycle.period) _ c.loop-lead.invariant.1

pub loop-lead-preserved : goal.loop-lead-preserved
loop-lead-preserved g c =
    let next = g.D.Dynamics.next c.args.self.now.map.now in
    let z = short c.args.self.now.first.element in
    let p = c.args.cycle.period in (
      more next z c.loop-lead.lead _ _ c.loop-lead.invariant.0 c.step-behind.ensures,
      more next z (c.loop-lead.lead + p) _ _ c.loop-lead.invariant.1 c.step-ahead.ensures ∙ ap (λ k. after next k z) (omega arith),
      below_more (λ i. after next (i + p) z ≢ after next i z) c.loop-lead.lead c.loop-lead.invariant.2 (λ q. apart c.loop-lead.behind c.loop-lead.ahead c.if-eq.ensures (c.loop-lead.invariant.0 ∙ sym q ∙ sym c.loop-lead.invariant.1)),
    )
