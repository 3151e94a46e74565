use Rattle.residue.proofs.Kept.{at_root_is}
use Rattle.residue.proofs.making.at_root.Goals as goal

pub overflow_add-result : goal.overflow_add-result
overflow_add-result c =
    let ring = c.args.ring in
    (at_root_is ring.t ring.n c.args.root ring.ranged c.requires c.from-r.result c.from.result c.from-2.result c.from-r.ensures c.from.ensures c.from-2.ensures).0

pub returns : goal.returns
returns c =
    let ring = c.args.ring in
    (at_root_is ring.t ring.n c.args.root ring.ranged c.requires c.from-r.result c.from.result c.from-2.result c.from-r.ensures c.from.ensures c.from-2.ensures).1
