use Rattle.numerals.proofs.Inverse.{reads_written}
use Rattle.numerals.proofs.read_as_written.Goals as goal

pub returns : goal.returns
returns c = reads_written
