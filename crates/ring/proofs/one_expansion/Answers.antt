use Rattle.ring.proofs.Statements.{one_expansion_stands}
use Rattle.ring.proofs.one_expansion.Goals as goal

pub returns : goal.returns
returns c = one_expansion_stands
