use Rattle.ring.proofs.Statements.{trail_reaches_zero}
use Rattle.ring.proofs.trail_reaches_zero.Goals as goal

pub returns : goal.returns
returns c = trail_reaches_zero
