use Rattle.sets.proofs.Holding.{found}
use Rattle.sets.proofs.table.DigitSet.holds.Goals as goal

pub returns : goal.returns
returns c = found c.place_of.result c.is_some.result c.is_some.ensures (λ n h. n h) (λ i h. (i, h.0, h.1)) c.place_of.ensures
