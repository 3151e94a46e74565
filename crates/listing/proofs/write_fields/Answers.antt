use Rattle.std.proofs.Common.{get_or, pos, arith, length-set, w64, SFits, rules}
use Rattle.std.proofs.lemmas.Int.{to_z-of_z}
use Rattle.listing.proofs.Wrote.{fields_room, wrote_field}
use Rattle.listing.proofs.write_fields.Goals as goal

pub write_number-end-requires : goal.write_number-end-requires
write_number-end-requires c =
    rw (to_z-of_z w64 (get_or c.args.numbers.now c.loop-x.x-index (pos 0)) (search rules)) (omega (arith, c.requires, c.loop-x.invariant.end, fields_room c.args.numbers.now c.loop-x.x-index c.loop-x-test.true, length-set c.loop-x.out c.loop-x.end 44))

pub loop-x-preserved : goal.loop-x-preserved
loop-x-preserved c =
    let f : SFits w64 (get_or c.args.numbers.now c.loop-x.x-index (pos 0)) = search rules in
    let same = to_z-of_z w64 _ f in
    let h = c.write_number-end.ensures in
    wrote_field _ _ _ _ c.requires c.loop-x-test.true _ _ c.loop-x.invariant _ _ (rw same at h.after) (rw same at h.end)
