use Rattle.ring.proofs.Statements.{stays_within}
use Rattle.ring.proofs.stays_within.Goals as goal

pub returns : goal.returns
returns c = stays_within
