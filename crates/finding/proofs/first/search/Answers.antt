use Rattle.std.proofs.Common.{◌≡◌, ◌+◌, ◌≤◌, sym, refl, subst, inl, inr, rules, arith, w32, to_z}
use Rattle.std.proofs.lemmas.Int.{ints, to_z-of_z}
use Rattle.digits.specs.declared.verdict.Verdict.TheVariants.{Cleared}
use Rattle.finding.specs.Finding.{Inner, Judged}
use Rattle.finding.proofs.Nested.{none_zero, left_none, under_none, under_more, column_done, rows_done, found}
use Rattle.finding.proofs.first.search.Goals as goal
use Rattle.finding.proofs.first.search.Goals.{else-loop-y-test, then-loop-y-test+in_default+else-y-c, else-loop-x-test, then-loop-x-test+else-x-c}

pub search-init : goal.search-init
search-init g c =
    let d = c.args.map.now in
    let z = none_zero (g.D.Dynamics.next d) (g.D.Dynamics.ring d) (g.D.Dynamics.lawful d) in
    (refl, omega arith, z, z)

pub loop-x-init : goal.loop-x-init
loop-x-init g c =
    let d = c.args.map.now in
    let e = c.reach-c.ensures in (
      c.search.invariant.0,
      grind (arith, ints),
      left_none (g.D.Dynamics.next d) (g.D.Dynamics.ring d) (g.D.Dynamics.lawful d) c.search.norm c.reach-c.result e.low e.bounds _ (grind (arith, ints)),
    )

pub loop-y-init : goal.loop-y-init
loop-y-init g c =
    let d = c.args.map.now in
    let e = c.reach-c.ensures in (
      c.loop-x.invariant.0,
      grind (arith, ints),
      under_none (g.D.Dynamics.next d) (g.D.Dynamics.ring d) (g.D.Dynamics.lawful d) c.search.norm c.reach-c.result e.low e.bounds _ _ (grind (arith, ints)),
    )

pub loop-y-preserved : goal.loop-y-preserved
loop-y-preserved g c =
    let d = c.args.map.now in
    let e = c.reach-c.ensures in
    let low = e.low in
    let high = e.high in
    let i = c.loop-y.invariant.1 in
    let t = c.loop-y-test.true in (
      c.loop-y.invariant.0,
      grind (arith, ints),
      under_more (g.D.Dynamics.next d) (g.D.Dynamics.ring d) (g.D.Dynamics.lawful d) c.search.norm (to_z w32 c.loop-x.x-bits) (to_z w32 c.loop-y.y-bits) _ (to_z-of_z w32 _ (grind (arith, ints))) c.search.invariant.2 c.loop-x.invariant.2 c.loop-y.invariant.2 c.in_default.ensures,
    )

pub loop-x-preserved : goal.loop-x-preserved
loop-x-preserved g c =
    let d = c.args.map.now in
    let e = c.reach-c.ensures in
    let low = e.low in
    let high = e.high in
    let i = c.loop-x.invariant.1 in
    let t = c.loop-x-test.true in (
      c.loop-y.invariant.0,
      grind (arith, ints),
      column_done (g.D.Dynamics.next d) (g.D.Dynamics.ring d) (g.D.Dynamics.lawful d) c.search.norm c.reach-c.result e.low e.bounds (to_z w32 c.loop-x.x-bits) _ (to_z w32 c.loop-y.y-bits) (to_z-of_z w32 _ (grind (arith, ints))) c.search.invariant.2 c.loop-x.invariant.2 c.loop-y.invariant.2
          (elim c.loop-y-test.branch [ else-loop-y-test w ↦ inl (search rules) | then-loop-y-test+in_default+else-y-c w ↦ inr (search rules, w.in_default.ensures) ]),
    )

-- where the x loop ends, every element of the norm comes to 0
pub search-preserved : goal.search-preserved
search-preserved g c =
    let d = c.args.map.now in
    let next = g.D.Dynamics.next d in
    let s = g.D.Dynamics.ring d in
    let law = g.D.Dynamics.lawful d in
    let e = c.reach-c.ensures in (
      elim c.loop-x-test.branch [ else-loop-x-test w ↦ search rules | then-loop-x-test+else-x-c w ↦ search rules ],
      c.cleared_to-clear.ensures.down,
      rows_done next s law c.search.norm c.reach-c.result e.low e.bounds (to_z w32 c.loop-x.x-bits) c.search.invariant.2 c.loop-x.invariant.2
          (elim c.loop-x-test.branch [
            | else-loop-x-test w ↦ inl (search rules)
            | then-loop-x-test+else-x-c w ↦ inr (
              search rules,
              column_done next s law c.search.norm c.reach-c.result e.low e.bounds (to_z w32 c.loop-x.x-bits) _ (to_z w32 w.loop-y.y-bits) refl c.search.invariant.2 c.loop-x.invariant.2 w.loop-y.invariant.2
                  (elim w.loop-y-test.branch [ else-loop-y-test w' ↦ inl (search rules) | then-loop-y-test+in_default+else-y-c w' ↦ inr (search rules, w'.in_default.ensures) ]),
            )
          ]),
      c.cleared_to-clear.ensures.ends,
    )

pub returns-in-Some : goal.returns-in-Some
returns-in-Some g c =
    let d = c.args.map.now in
    let r = c.in-Some.ensures in
    found (g.D.Dynamics.next d) (g.D.Dynamics.ring d) (g.D.Dynamics.lawful d) c.search.norm (g.D.Dynamics.rests d) (omega arith) (to_z w32 c.loop-x.x-bits) (to_z w32 c.loop-y.y-bits) c.in-Some.field-0.lead c.in-Some.field-0.period c.search.invariant.2 c.loop-x.invariant.2 c.loop-y.invariant.2 r.0 r.1

-- and so at the last norm
pub returns-else-norm-clear : goal.returns-else-norm-clear
returns-else-norm-clear g c =
    let d = c.args.map.now in
    let next = g.D.Dynamics.next d in
    let s = g.D.Dynamics.ring d in
    let law = g.D.Dynamics.lawful d in
    let e = c.reach-c.ensures in
    let none : c.loop-x-test.found ≡ Cleared = elim c.loop-x-test.branch [ else-loop-x-test w ↦ search rules | then-loop-x-test+else-x-c w ↦ search rules ] in
    let ends : Inner next s (c.search.norm + 1) = rows_done next s law c.search.norm c.reach-c.result e.low e.bounds (to_z w32 c.loop-x.x-bits) c.search.invariant.2 c.loop-x.invariant.2
    (elim c.loop-x-test.branch [
      | else-loop-x-test w ↦ inl (search rules)
      | then-loop-x-test+else-x-c w ↦ inr (
        search rules,
        column_done next s law c.search.norm c.reach-c.result e.low e.bounds (to_z w32 c.loop-x.x-bits) _ (to_z w32 w.loop-y.y-bits) refl c.search.invariant.2 c.loop-x.invariant.2 w.loop-y.invariant.2
            (elim w.loop-y-test.branch [ else-loop-y-test w' ↦ inl (search rules) | then-loop-y-test+in_default+else-y-c w' ↦ inr (search rules, w'.in_default.ensures) ]),
      )
    ]) in
    let last : c.args.bound ≤ c.search.norm = search rules in
    subst (Judged next s c.args.bound) (sym none) (λ z h. ends z (omega (arith, h, last)))
