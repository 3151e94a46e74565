use Rattle.std.proofs.Common.{pos, sym, ap, ◌∙◌}
use Rattle.std.specs.Int.{int_rem_euclid}
use Rattle.residue.specs.Residue.{at}
use Rattle.residue.specs.Points.{times_is}
use Rattle.residue.proofs.Kept.{product_is}
use Rattle.residue.proofs.ResidueEngine.times.Goals as goal

pub returns : goal.returns
returns c =
    let e = c.args.self.now in
    let k = c.args.k in
    let a = c.args.a in
    let product = product_is k a c.ranges.k c.ranges.a.fits c.from.result c.from-2.result c.from.ensures c.from-2.ensures in
    ap at (c.reduced.ensures.is ∙ ap (λ z. int_rem_euclid z (pos e.residues.modulus)) product) ∙ sym (times_is e.ring.t e.ring.n e.residues.modulus e.root e.start e.residues.ranged k a)
