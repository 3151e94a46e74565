use Rattle.systems.proofs.Rules.{answers, theta_rule}
use Rattle.systems.proofs.theta.even.Goals as goal

pub returns : goal.returns
returns g c = answers (theta_rule g.T.Sign.SIGN) _ c.multiple.result c.multiple.ensures
