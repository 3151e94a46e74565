use Rattle.ring.proofs.Statements.{full_by_number_stands}
use Rattle.ring.proofs.full_by_number.Goals as goal

pub returns : goal.returns
returns c = full_by_number_stands
