use Rattle.rules.proofs.Units.{units_agree}
use Rattle.rules.proofs.agree.units_agree.Goals as goal

pub returns : goal.returns
returns g c = units_agree
