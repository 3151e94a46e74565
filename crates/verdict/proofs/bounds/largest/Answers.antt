use Rattle.std.proofs.Common.{◌≤◌, sym, ◌∙◌, arith}
use Rattle.ring.specs.System.{size}
use Rattle.ring.proofs.Magnitudes.{digit_size}
use Rattle.numbers.specs.Meaning.{short}
use Rattle.digits.specs.Digits.{elems}
use Rattle.digits.proofs.Listed.{length_elems, elem_at}
use Rattle.verdict.proofs.Sizes.{upto_more, all_upto}
use Rattle.verdict.proofs.bounds.largest.Goals as goal

pub loop-d-preserved : goal.loop-d-preserved
loop-d-preserved g c =
    let s = g.S.Ruled.ring in
    let e = short c.element.result in
    let at = elem_at c.args.digits.now c.d-item.result c.loop-d.d-index c.loop-d-test.true (sym c.d-item.is) ∙ sym c.element.ensures.is in
    let small : size s e ≤ 260100 = digit_size s g.S.Ruled.lawful e c.element.ensures.ranged in
    let n = c.norm_in.ensures in
    let m = c.max-most.ensures in
    (omega arith, upto_more s c.loop-d.most c.max-most.result (elems c.args.digits.now) c.loop-d.d-index e (omega arith) at (omega arith) c.loop-d.invariant.1)

pub returns : goal.returns
returns g c =
    let ds = c.args.digits.now in
    record { small = c.loop-d.invariant.0; most = all_upto g.S.Ruled.ring c.loop-d.most (elems ds) c.loop-d.d-index (omega (arith, c.loop-d-test.false, length_elems ds)) c.loop-d.invariant.1 }
