use Rattle.engine.proofs.Acting.{acting_laws}
use Rattle.engine.proofs.acting_laws.Goals as goal

pub returns : goal.returns
returns g c = acting_laws
