use Rattle.ring.proofs.Statements.{one_lead_and_period}
use Rattle.ring.proofs.one_lead_and_period.Goals as goal

pub returns : goal.returns
returns c = one_lead_and_period
