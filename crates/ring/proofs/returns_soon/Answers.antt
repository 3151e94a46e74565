use Rattle.ring.proofs.Statements.{returns_soon_stands}
use Rattle.ring.proofs.returns_soon.Goals as goal

pub returns : goal.returns
returns c = returns_soon_stands
