use Rattle.ring.proofs.Statements.{length_fits_stands}
use Rattle.ring.proofs.length_fits.Goals as goal

pub returns : goal.returns
returns c = length_fits_stands
