use Rattle.ring.proofs.Statements.{norm_laws}
use Rattle.ring.proofs.norm_laws.Goals as goal

pub returns : goal.returns
returns c = norm_laws
