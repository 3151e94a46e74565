use Rattle.std.proofs.Common.{◌+ℤ◌, ◌≤ℤ◌, pos, refl, subst, rules, arith, w32, to_z, of_z}
use Rattle.std.proofs.lemmas.Int.{ints, to_z-of_z}
use Rattle.finding.specs.Finding.{Column}
use Rattle.finding.proofs.Sifted.{under_more, under_all}
use Rattle.finding.proofs.sieve.Sieve.column.Goals as goal

pub loop-y-preserved : goal.loop-y-preserved
loop-y-preserved g c =
    let s = c.args.self.now in
    let i = c.loop-y.invariant in
    let low = i.0 in
    let high = s.high in
    let t = c.loop-y-test.true in
    let r = c.lowered-lowest.ensures in (
      grind (arith, ints),
      λ h. r.from (i.1 h),
      omega (arith, r.down, i.2),
      under_more (g.D.Dynamics.next s.map.now) (g.D.Dynamics.ring s.map.now) s.from _ _ s.reach (to_z w32 (of_z w32 c.args.x)) (to_z w32 c.loop-y.y-bits) _ r.down (to_z-of_z w32 _ (grind (arith, ints))) i.3 r.falls,
    )

pub returns-2-clause-falls : goal.returns-2-clause-falls
returns-2-clause-falls g c =
    let s = c.args.self.now in
    let next = g.D.Dynamics.next s.map.now in
    let ring = g.D.Dynamics.ring s.map.now in
    let i = c.loop-y.invariant in
    let r = c.lowered-lowest.ensures in
    let x = to_z w32 (of_z w32 c.args.x) in
    let y = to_z w32 c.loop-y.y-bits in
    let last : s.reach ≤ℤ y = search rules in
    let under = under_more next ring s.from _ _ s.reach x y (y +ℤ pos 1) r.down refl i.3 r.falls in
    subst (Column next ring s.from c.lowered-lowest.result s.reach) (to_z-of_z w32 c.args.x c.ranges.x) (under_all next ring s.from c.lowered-lowest.result s.reach x (y +ℤ pos 1) s.low (omega (arith, ints, last)) under)
