use Rattle.numerals.proofs.Inverse.{one_number}
use Rattle.numerals.proofs.one_number.Goals as goal

pub returns : goal.returns
returns c = one_number
