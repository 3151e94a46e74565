use Rattle.rules.proofs.Keeps.{holds_throughout}
use Rattle.rules.proofs.keep.holds_throughout.Goals as goal

pub returns : goal.returns
returns g c = holds_throughout
