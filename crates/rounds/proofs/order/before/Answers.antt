use Rattle.std.proofs.Common.{Decides, subst, subst₂}
use Rattle.numbers.specs.Meaning.{short}
use Rattle.rounds.specs.Order.{Ordered}
use Rattle.rounds.proofs.Orders.{to_before, of_before}
use Rattle.rounds.proofs.order.before.Goals as goal

pub returns : goal.returns
returns g c =
    let map = c.args.map.now in
    let s = g.D.Dynamics.ring map in
    let law = g.D.Dynamics.lawful map in
    let a = short c.args.a in
    let b = short c.args.b.element in
    let p = subst (λ u. Decides c.precedes.result (Ordered c.rank.result.norm (short u) c.args.b.norm b)) c.rank.ensures.element c.precedes.ensures in
    let q = subst₂ (λ m n. Decides c.precedes.result (Ordered m a n b)) c.rank.ensures.norm c.requires.is p in
    (λ e. to_before s law a b (q.0 e), λ h. q.1 (of_before s law a b h))
