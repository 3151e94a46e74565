use Rattle.engine.proofs.Acting.{step_law}
use Rattle.engine.proofs.step_law.Goals as goal

pub returns : goal.returns
returns g c = step_law
