use Rattle.std.proofs.Common.{◌+◌, ◌≤◌, neg_ℤ, ◌≤ℤ◌}
use Rattle.finding.proofs.Sifted.{Left}
use Rattle.finding.proofs.sieve.Sieve.sift.Given as goal

abbrev pub invariant-loop-x : goal.invariant-loop-x
invariant-loop-x g l =
    let s = l.self in
    (neg_ℤ s.reach ≤ℤ l.x) × (s.from ≤ l.least) × (l.least ≤ s.top + 1) × Left (g.D.Dynamics.next s.map.now) (g.D.Dynamics.ring s.map.now) s.from l.least l.x
