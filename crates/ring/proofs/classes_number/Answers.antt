use Rattle.ring.proofs.Statements.{classes_number_stands}
use Rattle.ring.proofs.classes_number.Goals as goal

pub returns : goal.returns
returns c = classes_number_stands
