use Rattle.std.proofs.Common.{◌≡◌, length, take, drop}
use Rattle.ring.specs.Expansion.{weighted}
use Rattle.numbers.specs.Meaning.{short}
use Rattle.systems.specs.Named.{kp}
use Rattle.recoding.specs.Walk.{digits_of}
use Rattle.expand.proofs.weighted_sum.Given as goal

abbrev pub invariant-loop-entry : goal.invariant-loop-entry
invariant-loop-entry l =
    (l.entry-iterator.iter.rest.now ≡ take (length l.entry-iterator.iter.rest.now) l.entries)
    × (short l.sum ≡ weighted kp (digits_of (drop (length l.entry-iterator.iter.rest.now) l.entries)))
