use Rattle.std.proofs.Common.{take}
use Rattle.listing.specs.Lines.{fields}
use Rattle.listing.proofs.Wrote.{Wrote}
use Rattle.listing.proofs.write_fields.Given as goal

abbrev pub invariant-loop-x : goal.invariant-loop-x
invariant-loop-x l = Wrote l.initial.out l.at (fields (take l.x-index l.numbers)) l.out l.end
