use Rattle.ring.proofs.Statements.{length_bound_stands}
use Rattle.ring.proofs.length_bound.Goals as goal

pub returns : goal.returns
returns c = length_bound_stands
