use Rattle.std.proofs.Common.{◌≡◌, ◌≤◌, length, get_or, arith, rules, ltb-false}
use Rattle.sheet.proofs.Heads.{with_head}
use Rattle.sheet.proofs.reading.read_line.Goals as goal

pub returns-in-44 : goal.returns-in-44
returns-in-44 c =
    let s = c.args.f.text.now in
    let h : 2 ≤ length s = omega (arith, ltb-false) in
    let e : get_or s 1 0 ≡ 44 = search rules in
    rw c.ok_or.ensures.value (with_head c.args.f.place _ s c.body.result h c.from.ensures e c.body.ensures)
