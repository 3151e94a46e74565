use Rattle.systems.proofs.Rules.{quotient, theta_rule}
use Rattle.systems.proofs.theta.ThetaAsks.quotient.Goals as goal

pub returns-then-divides : goal.returns-then-divides
returns-then-divides g c = quotient (theta_rule g.T.Sign.SIGN) _ _ (c.divides.ensures.0 c.if-divides.true) c.half.ensures
