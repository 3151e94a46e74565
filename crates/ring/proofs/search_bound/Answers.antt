use Rattle.ring.proofs.Statements.{search_bound_stands}
use Rattle.ring.proofs.search_bound.Goals as goal

pub returns : goal.returns
returns c = search_bound_stands
