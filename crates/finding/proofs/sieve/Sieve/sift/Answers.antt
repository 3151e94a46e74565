use Rattle.std.proofs.Common.{◌+ℤ◌, ◌≤ℤ◌, ◌<ℤ◌, pos, refl, rules, arith, w32, to_z}
use Rattle.std.proofs.lemmas.Int.{ints, to_z-of_z}
use Rattle.finding.proofs.Sifted.{left_none, left_more, left_all}
use Rattle.finding.proofs.sieve.Sieve.sift.Goals as goal

pub loop-x-init : goal.loop-x-init
loop-x-init g c =
    let s = c.args.self.now in
    let d = s.map.now in
    let low = s.low in
    let high = s.high in (
      grind (arith, ints),
      c.requires,
      omega arith,
      left_none (g.D.Dynamics.next d) (g.D.Dynamics.ring d) (g.D.Dynamics.lawful d) s.from s.top s.reach s.low s.bounds _ _ (omega arith) (grind (arith, ints)),
    )

pub loop-x-preserved : goal.loop-x-preserved
loop-x-preserved g c =
    let s = c.args.self.now in
    let d = s.map.now in
    let i = c.loop-x.invariant in
    let low = i.0 in
    let high = s.high in
    let t = c.loop-x-test.true in
    let r = c.column-least.ensures in (
      grind (arith, ints),
      r.from i.1,
      omega (arith, r.down, i.2),
      left_more (g.D.Dynamics.next d) (g.D.Dynamics.ring d) (g.D.Dynamics.lawful d) s.from s.top s.reach s.low s.bounds _ _ (to_z w32 c.loop-x.x-bits) _ i.2 r.down (to_z-of_z w32 _ (grind (arith, ints))) i.3 r.falls,
    )

pub returns-clause-falls : goal.returns-clause-falls
returns-clause-falls g c =
    let s = c.args.self.now in
    let d = s.map.now in
    let i = c.loop-x.invariant in
    let past : s.reach <ℤ to_z w32 c.loop-x.x-bits = search rules in
    left_all (g.D.Dynamics.next d) (g.D.Dynamics.ring d) (g.D.Dynamics.lawful d) s.from s.top s.reach s.low s.bounds _ (to_z w32 c.loop-x.x-bits) i.2 past i.3

pub returns-2-clause-falls : goal.returns-2-clause-falls
returns-2-clause-falls g c =
    let s = c.args.self.now in
    let d = s.map.now in
    let next = g.D.Dynamics.next d in
    let ring = g.D.Dynamics.ring d in
    let law = g.D.Dynamics.lawful d in
    let i = c.loop-x.invariant in
    let r = c.column-least.ensures in
    let x = to_z w32 c.loop-x.x-bits in
    let last : s.reach ≤ℤ x = search rules in
    let left = left_more next ring law s.from s.top s.reach s.low s.bounds _ _ x (x +ℤ pos 1) i.2 r.down refl i.3 r.falls in
    left_all next ring law s.from s.top s.reach s.low s.bounds c.column-least.result (x +ℤ pos 1) (omega (arith, r.down, i.2)) (omega (arith, ints, last)) left
