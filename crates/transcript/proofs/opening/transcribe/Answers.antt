use Rattle.std.proofs.Common.{inr}
use Rattle.transcript.proofs.opening.transcribe.Goals as goal

pub returns-in-Ok : goal.returns-in-Ok
returns-in-Ok g c =
    let q = c.in-Ok.choice in
    let o = c.in-Ok.ensures in
    let s = c.open.ensures in
    (s.0, inr (o.fits, (o.whole, o.is, o.front, inr (o.line, (c.in-Ok.rest.lines, o.split, inr (q.system, (q.modulus, (q.root, (q.start, o.chosen, s.1)))))))), s.2)
