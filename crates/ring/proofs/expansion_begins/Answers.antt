use Rattle.ring.proofs.Statements.{expansion_begins}
use Rattle.ring.proofs.expansion_begins.Goals as goal

pub returns : goal.returns
returns c = expansion_begins
