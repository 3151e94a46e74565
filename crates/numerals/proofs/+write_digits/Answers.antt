use Rattle.std.proofs.Common.{◌+◌, ◌/◌, ◌<◌, length, set, sym, ap, ◌∙◌, arith}
use Rattle.numerals.specs.Numeral.{hex}
use Rattle.numerals.specs.Overwrite.{overwrite}
use Rattle.numerals.proofs.Overwriting.{hex_step, hex_one, length_hex_step, overwrite_one, overwrite_more}
use Rattle.numerals.proofs.+write_digits.Goals as goal

pub bounds-out-at : goal.bounds-out-at
bounds-out-at t c = omega (arith, ap length (hex_one c.args.n (omega arith)))

pub returns-then-n-lt16 : goal.returns-then-n-lt16
returns-then-n-lt16 t c =
    let s = c.args.out.now in
    let one = hex_one c.args.n c.if-n-lt16.true in
    let long = ap length one in
    record {
      end = omega arith;
      after = ap (set s c.args.at) c.letter.ensures ∙ overwrite_one s c.args.at _ (omega arith) ∙ ap (overwrite s c.args.at) (sym one);
    }

pub write_digits-end-requires : goal.write_digits-end-requires
write_digits-end-requires t c = omega (arith, length_hex_step c.args.n (omega arith))

-- the place after the higher digits is within the buffer
room : {t : _} (c : goal.After-letter-2 t) → c.write_digits-end.result < length c.args.out.now
room c = omega (arith, length_hex_step c.args.n (omega arith), c.write_digits-end.ensures.end)

pub bounds-out-end : goal.bounds-out-end
bounds-out-end t c = omega (arith, room c)

pub overflow_add-result-2 : goal.overflow_add-result-2
overflow_add-result-2 t c = omega (arith, room c, c.well_formed)

pub returns : goal.returns
returns t c =
    let s = c.args.out.now in
    let at = c.args.at in
    let xs = hex (c.args.n / 16) in
    let end = c.write_digits-end.ensures.end in
    let step = hex_step c.args.n (omega arith) in
    let inside : at + length xs < length s = omega (arith, room c) in
    record {
      end = omega (arith, length_hex_step c.args.n (omega arith));
      after = (λ i. set (c.write_digits-end.ensures.after i) (end i) (c.letter-2.ensures i)) ∙ overwrite_more s at xs _ inside ∙ ap (overwrite s at) (sym step);
    }
