use Rattle.ring.proofs.Statements.{boxed_trail_returns}
use Rattle.ring.proofs.boxed_trail_returns.Goals as goal

pub returns : goal.returns
returns c = boxed_trail_returns
