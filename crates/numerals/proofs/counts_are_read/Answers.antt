use Rattle.numerals.proofs.Inverse.{counts_are_read}
use Rattle.numerals.proofs.counts_are_read.Goals as goal

pub returns : goal.returns
returns c = counts_are_read
