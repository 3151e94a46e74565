use Rattle.ring.proofs.Statements.{base_cancels}
use Rattle.ring.proofs.base_cancels.Goals as goal

pub returns : goal.returns
returns c = base_cancels
