use Rattle.std.proofs.Common.{◌≤◌, neg_ℤ, ◌≤ℤ◌}
use Rattle.finding.proofs.Sifted.{Under}
use Rattle.finding.proofs.sieve.Sieve.column.Given as goal

abbrev pub invariant-loop-y : goal.invariant-loop-y
invariant-loop-y g l =
    let s = l.self in
    (neg_ℤ s.reach ≤ℤ l.y) × (s.from ≤ l.least → s.from ≤ l.lowest) × (l.lowest ≤ l.least) × Under (g.D.Dynamics.next s.map.now) (g.D.Dynamics.ring s.map.now) s.from l.lowest s.reach l.x l.y
