use Rattle.std.proofs.Common.{◌≡◌, ◌+◌, ◌-◌, ◌++◌, length, take, drop, ap, ◌∙◌, arith, drop-drop}
use Rattle.numerals.specs.Overwrite.{overwrite}
use Rattle.numerals.proofs.write_bytes.Goals as goal

pub returns-clause-after : goal.returns-clause-after
unfolding overwrite
returns-clause-after c =
    let s = c.args.out.now in
    let at = c.args.at in
    let t = c.args.text.now in
    let k : at + length t - at ≡ length t = omega arith in
    ap (λ l. take at s ++ (l ++ drop (at + length t - at) (drop at s))) c.copy_from_slice.ensures.after ∙ ap (λ l. take at s ++ (t ++ l)) (ap (λ n. drop n (drop at s)) k ∙ drop-drop (length t) at s)
