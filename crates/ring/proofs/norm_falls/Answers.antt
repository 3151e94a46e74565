use Rattle.ring.proofs.Statements.{norm_falls_stands}
use Rattle.ring.proofs.norm_falls.Goals as goal

pub returns : goal.returns
returns c = norm_falls_stands
