use Rattle.replies.proofs.Asked.{chosen_by, read_as_none}
use Rattle.replies.proofs.asking.chosen.Goals as goal

pub returns-in_err-ok : goal.returns-in_err-ok
returns-in_err-ok c =
    rw c.from_residual.ensures (λ t m r g q. read_as_none c.args.f c.read_line.result c.read_line.ensures c.in_err-ok.ensures.value q.0 q.1)

pub returns : goal.returns
returns c =
    chosen_by c.args.f c.read_line.result c.in_ok-ok.field-0 c.read_line.ensures c.in_ok-ok.ensures.value c.choice_of.result c.choice_of.ensures
