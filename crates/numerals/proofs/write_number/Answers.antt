use Rattle.std.proofs.Common.{◌≡◌, [], ◌∷◌, nat_abs, sym, ap, ◌∙◌, add-zero, w64}
use Rattle.std.proofs.lemmas.Int.{to_z-of_z}
use Rattle.numerals.proofs.Overwriting.{overwrite_none, written_minus, written_bare, Signs, signed_after}
use Rattle.numerals.proofs.write_number.Goals as goal
use Rattle.numerals.proofs.write_number.Goals.{then-x-lt0, else-x-lt0}

pub returns-clause-after : goal.returns-clause-after
returns-clause-after c =
    let s = c.args.out.now in
    let at = c.args.at in
    let x = c.args.x in
    let same = to_z-of_z w64 x c.ranges.x in
    let mag : c.unsigned_abs.result ≡ nat_abs x = c.unsigned_abs.ensures.value ∙ ap nat_abs same in
    let sg : Signs s at c.if-x-lt0.out c.if-x-lt0.start x =
    elim c.if-x-lt0.branch [
      | then-x-lt0 w ↦ record { sign = 45 ∷ []; out_is = w.out-is ∙ w.write_bytes-start.ensures.after; start_is = w.start-is ∙ w.write_bytes-start.ensures.end; whole = sym (written_minus x _ same w.if-x-lt0.true) }
      | else-x-lt0 w ↦ record { sign = []; out_is = w.out-is ∙ sym (overwrite_none s at); start_is = w.start-is ∙ sym (add-zero at); whole = sym (written_bare x _ same w.if-x-lt0.false) }
    ] in
    signed_after s at _ _ x sg _ _ mag c.write_digits.ensures.after c.requires
