use Rattle.std.proofs.Common.{arith, w64, SFits}
use Rattle.std.proofs.lemmas.Int.{ints, to_z-of_z}
use Rattle.engine.specs.Rings.{InRing}
use Rattle.engine.proofs.rings.Ring.new.Goals as goal

pub returns : goal.returns
returns c =
    let t : SFits w64 c.args.t = c.ranges.t in
    let n : SFits w64 c.args.n = c.ranges.n in
    let within : InRing c.args.t c.args.n = simp to_z-of_z at (c.in_ring.ensures.0 c.if-not-in_ring.false) in
    (within, omega (arith, ints, within), omega (arith, ints, within))
