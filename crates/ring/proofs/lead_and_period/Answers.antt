use Rattle.ring.proofs.Statements.{lead_and_period}
use Rattle.ring.proofs.lead_and_period.Goals as goal

pub returns : goal.returns
returns c = lead_and_period
