use Rattle.ring.proofs.Statements.{returns_away_from_zero}
use Rattle.ring.proofs.returns_away_from_zero.Goals as goal

pub returns : goal.returns
returns c = returns_away_from_zero
