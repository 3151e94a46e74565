use Rattle.rules.proofs.Keeps.{keeps}
use Rattle.rules.proofs.keep.calls_keep.Goals as goal

pub returns : goal.returns
returns g c = keeps
