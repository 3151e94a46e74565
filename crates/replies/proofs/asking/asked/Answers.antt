use Rattle.replies.proofs.Asked.{asked_by, read_as_none}
use Rattle.replies.proofs.asking.asked.Goals as goal

pub returns-in_err-ok : goal.returns-in_err-ok
returns-in_err-ok c =
    rw c.from_residual.ensures (λ d q. read_as_none c.args.f c.read_line.result c.read_line.ensures c.in_err-ok.ensures.value q.0 q.1)

pub returns : goal.returns
returns c =
    asked_by c.args.f c.read_line.result c.in_ok-ok.field-0 c.read_line.ensures c.in_ok-ok.ensures.value c.call_of.result c.call_of.ensures
