use Rattle.systems.proofs.Rules.{quotient, g5_rule}
use Rattle.systems.proofs.five.G5Asks.quotient.Goals as goal

pub returns-then-divides : goal.returns-then-divides
returns-then-divides g c = quotient g5_rule _ _ (c.divides.ensures.0 c.if-divides.true) c.fifths.ensures
