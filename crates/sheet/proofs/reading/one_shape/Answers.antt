use Rattle.sheet.proofs.Unique.{one_shape}
use Rattle.sheet.proofs.reading.one_shape.Goals as goal

pub returns : goal.returns
returns c = one_shape
