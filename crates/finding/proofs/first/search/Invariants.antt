use Rattle.std.proofs.Common.{◌≡◌, ◌+◌, ◌≤◌, neg_ℤ, ◌≤ℤ◌}
use Rattle.digits.specs.declared.verdict.Verdict.TheVariants.{Cleared}
use Rattle.finding.specs.Finding.{Inner}
use Rattle.finding.proofs.Nested.{Left, Under}
use Rattle.finding.proofs.first.search.Given as goal

abbrev pub invariant-loop-y : goal.invariant-loop-y
invariant-loop-y g l = (l.found ≡ Cleared) × (neg_ℤ l.c ≤ℤ l.y) × Under (g.D.Dynamics.next l.map) (g.D.Dynamics.ring l.map) l.norm l.x l.y

abbrev pub invariant-loop-x : goal.invariant-loop-x
invariant-loop-x g l = (l.found ≡ Cleared) × (neg_ℤ l.c ≤ℤ l.x) × Left (g.D.Dynamics.next l.map) (g.D.Dynamics.ring l.map) l.norm l.x

abbrev pub invariant-search : goal.invariant-search
invariant-search g l =
    let next = g.D.Dynamics.next l.map in
    let s = g.D.Dynamics.ring l.map in
    (l.found ≡ Cleared) × (l.clear ≤ l.bound + 1) × Inner next s l.norm × Inner next s l.clear
