use Rattle.ring.proofs.Statements.{ring_laws}
use Rattle.ring.proofs.ring_laws.Goals as goal

pub returns : goal.returns
returns c = ring_laws
