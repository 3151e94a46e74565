use Rattle.ring.proofs.Statements.{one_verdict_stands}
use Rattle.ring.proofs.one_verdict.Goals as goal

pub returns : goal.returns
returns c = one_verdict_stands
