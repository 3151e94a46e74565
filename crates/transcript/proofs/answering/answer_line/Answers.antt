use Rattle.std.proofs.Common.{refl, inl, inr}
use Rattle.transcript.proofs.answering.answer_line.Goals as goal

pub returns-in-Some : goal.returns-in-Some
returns-in-Some g c = λ e h x.
    let q = c.answer_call.ensures e h x in
    (q.0, (q.1.0, inl (c.in-Some.call, c.in-Some.ensures, q.1.1), q.1.2, q.1.3))

pub returns-in-None : goal.returns-in-None
returns-in-None g c = λ e h x. (h, (_, inr (c.in-None.ensures, refl, refl), x, c.print.ensures))
