use Rattle.std.proofs.Common.{arith}
use Rattle.listing.specs.Lines.{fields}
use Rattle.listing.proofs.Wrote.{Wrote, wrote_byte, wrote_more, wrote_front, length_fields, length_line}
use Rattle.listing.proofs.write_line.Goals as goal

pub returns : goal.returns
returns c =
    let s = c.args.out.now in
    let head = c.args.head.now in
    let numbers = c.args.numbers.now in
    let few = length_fields numbers c.requires.writable in
    let long = length_line head numbers in
    let w0 : Wrote s 0 head c.write_bytes-at.new.out c.write_bytes-at.result = record { text = c.write_bytes-at.ensures.after; end = c.write_bytes-at.ensures.end } in
    let w1 = wrote_more _ _ _ _ _ w0 (fields numbers) _ _ c.write_fields-end.ensures.after c.write_fields-end.ensures.end (omega (arith, c.requires.fits)) in
    let w2 = wrote_byte _ _ _ _ _ w1 10 (omega (arith, c.requires.fits, w1.end)) in
    (c.if-out-lt-ROOM.false, omega (arith, w2.end), wrote_front s _ _ _ w2)
