use Rattle.std.proofs.Common.{◌≡◌, ◌^◌}
use Rattle.digits.proofs.residues.modulus.Given as goal

abbrev pub invariant-loop : goal.invariant-loop
invariant-loop g l = l.all ≡ g.S.Ruled.ring.p ^ l.counter
