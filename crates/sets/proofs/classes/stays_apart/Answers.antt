use Rattle.sets.proofs.Distinct.{stays_apart}
use Rattle.sets.proofs.classes.stays_apart.Goals as goal

pub returns : goal.returns
returns c = stays_apart
