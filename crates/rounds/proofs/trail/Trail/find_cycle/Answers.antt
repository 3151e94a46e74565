use Rattle.std.proofs.Common.{◌+◌, ◌-◌, sym, refl, ◌∙◌, subst, arith}
use Rattle.std.proofs.lemmas.Bool.{both_ways}
use Rattle.ring.specs.Verdict.{Before}
use Rattle.numbers.specs.Meaning.{short}
use Rattle.rounds.proofs.Orders.{not_before, apart, together}
use Rattle.rounds.proofs.Trails.{ReturnsAfter, Gone, more, gone_none, gone_more, falls_from, cycle_from, kept_from, next_mark}
use Rattle.rounds.proofs.trail.Trail.find_cycle.Goals as goal

pub follow-init : goal.follow-init
follow-init g c =
    let t = c.args.self.now in
    (refl, gone_none (g.D.Dynamics.next t.map.now) (short t.first.element), not_before (g.D.Dynamics.ring t.map.now) (short t.first.element), omega arith, omega arith)

pub step-hare-requires : goal.step-hare-requires
step-hare-requires g c =
    let t = c.args.self.now in
    let d = t.map.now in
    let i = c.follow.invariant in
    kept_from (g.D.Dynamics.next d) (short t.first.element) (g.D.Dynamics.ring d) (g.D.Dynamics.cap d) (g.D.Dynamics.closed d) t.inside (c.follow.power - 1) c.follow.gone _ _ i.0 i.1.there

pub returns-then-eq : goal.returns-then-eq
returns-then-eq g c =
    let t = c.args.self.now in
    let d = t.map.now in
    let i = c.follow.invariant in
    let e = more (g.D.Dynamics.next d) (short c.follow.mark) c.follow.gone _ _ i.1.there c.step-hare.ensures in
    let r : ReturnsAfter (g.D.Dynamics.next d) (short c.follow.mark) (c.follow.gone + 1) = record { some = omega arith; back = sym e ∙ together c.step-hare.result c.follow.mark c.if-eq.ensures; least = λ k o l. i.1.none k o (omega arith) } in
    cycle_from (g.D.Dynamics.next d) (short t.first.element) (g.D.Dynamics.ring d) (c.follow.power - 1) (c.follow.gone + 1) _ i.0 i.2 r

pub falls_to-requires : goal.falls_to-requires
falls_to-requires g c =
    let t = c.args.self.now in
    let d = t.map.now in
    let i = c.follow.invariant in
    let e = more (g.D.Dynamics.next d) (short c.follow.mark) c.follow.gone _ _ i.1.there c.step-hare.ensures in
    kept_from (g.D.Dynamics.next d) (short t.first.element) (g.D.Dynamics.ring d) (g.D.Dynamics.cap d) (g.D.Dynamics.closed d) t.inside (c.follow.power - 1) (c.follow.gone + 1) _ _ i.0 e

pub returns-then-falls_to : goal.returns-then-falls_to
returns-then-falls_to g c =
    let t = c.args.self.now in
    let d = t.map.now in
    let i = c.follow.invariant in
    let e = more (g.D.Dynamics.next d) (short c.follow.mark) c.follow.gone _ _ i.1.there c.step-hare.ensures in
    falls_from (g.D.Dynamics.next d) (short t.first.element) (g.D.Dynamics.ring d) (c.follow.power - 1) _ i.0 (c.follow.gone + 1, subst (λ u. Before (g.D.Dynamics.ring d) u (short t.first.element)) e (c.falls_to.ensures.0 c.if-falls_to.true))

pub follow-preserved-then-gone-power : goal.follow-preserved-then-gone-power
follow-preserved-then-gone-power g c =
    let t = c.args.self.now in
    let d = t.map.now in
    let next = g.D.Dynamics.next d in
    let s = g.D.Dynamics.ring d in
    let z = short t.first.element in
    let i = c.follow.invariant in
    let p = gone_more next (short c.follow.mark) c.follow.gone _ _ i.1 c.step-hare.ensures (apart c.step-hare.result c.follow.mark c.if-eq.ensures) in
    let m = next_mark next z s (g.D.Dynamics.lawful d) (g.D.Dynamics.cap d) (g.D.Dynamics.small d) (g.D.Dynamics.closed d) t.inside c.follow.power _ _ (omega (arith, i.3)) i.0 (subst (λ k. Gone next (short c.follow.mark) k (short c.step-hare.result)) c.if-gone-power.true p) in
    (m.0, gone_none next (short c.step-hare.result), λ b. both_ways _ c.if-falls_to.false (c.falls_to.ensures.1 b), omega (arith, i.3), omega (arith, m.1))

pub follow-preserved : goal.follow-preserved
follow-preserved g c =
    let d = c.args.self.now.map.now in
    let i = c.follow.invariant in (
      i.0,
      gone_more (g.D.Dynamics.next d) (short c.follow.mark) c.follow.gone _ _ i.1 c.step-hare.ensures (apart c.step-hare.result c.follow.mark c.if-eq.ensures),
      i.2,
      omega arith,
      i.4,
    )
