use Rattle.std.proofs.Common.{◌≡◌, ◌<◌, Some, length, take, drop, sym, subst, arith}
use Rattle.std.proofs.lemmas.List.{set-get_or, take_more_set}
use Rattle.std.proofs.lemmas.Option.{MatchOption-at_some}
use Rattle.std.proofs.lemmas.Bool.{both_ways}
use Rattle.numbers.specs.Meaning.{meaning}
use Rattle.digits.specs.Digits.{elems}
use Rattle.recoding.specs.Walk.{Leads}
use Rattle.recoding.proofs.Leading.{leads_more, leads_expands, drop_more_set}
use Rattle.recoding.proofs.recode.expand.Goals as goal

pub returns-then-is_zero : goal.returns-then-is_zero
returns-then-is_zero g c =
    let v = g.C.Coordinate.value in
    let s = g.S.Ruled.ring in
    let ds = elems c.args.numeration.digits.now in
    let z = meaning v c.args.z in
    let l = subst (Leads v s c.args.numeration.width.places ds z (take c.loop-k.k c.loop-k.entries)) (c.is_zero.ensures.0 c.if-is_zero.true) c.loop-k.invariant.0 in
    rw set-get_or (
      (omega (arith, c.loop-k-test.true, c.loop-k.auto.entries), l, c.loop-k.invariant.1),
      leads_expands v s g.S.Ruled.lawful c.args.numeration.width.places c.args.numeration.width.some ds (c.all_odd.ensures.0 c.if-not-all_odd.false) z _ l,
    )

pub loop-k-preserved : goal.loop-k-preserved
loop-k-preserved g c =
    let v = g.C.Coordinate.value in
    let s = g.S.Ruled.ring in
    let ds = elems c.args.numeration.digits.now in
    let z = meaning v c.args.z in
    let here : c.loop-k.k < length c.loop-k.entries = omega (arith, c.loop-k-test.true, c.loop-k.auto.entries) in
    let some : c.step.result ≡ Some (c.in_ok-digit.digit, c.in_ok-digit.remainder) = grind arith in
    let step = MatchOption-at_some _ _ (c.in_ok-digit.digit, c.in_ok-digit.remainder) some c.step.ensures in (
      subst (λ es. Leads v s c.args.numeration.width.places ds z es (meaning v c.in_ok-digit.remainder)) (sym (take_more_set c.loop-k.entries c.loop-k.k (record { digit = c.in_ok-digit.digit; remainder = c.in_ok-digit.remainder }) here))
          (leads_more v s c.args.numeration.width.places ds z (take c.loop-k.k c.loop-k.entries) (meaning v c.loop-k.rest) (record { digit = c.in_ok-digit.digit; remainder = c.in_ok-digit.remainder }) c.loop-k.invariant.0 (λ e. both_ways c.is_zero.result c.if-is_zero.false (c.is_zero.ensures.1 e)) step.step),
      drop_more_set c.args.entries.now c.loop-k.entries c.loop-k.k (record { digit = c.in_ok-digit.digit; remainder = c.in_ok-digit.remainder }) c.loop-k.invariant.1,
    )

pub returns-then-is_zero-2 : goal.returns-then-is_zero-2
returns-then-is_zero-2 g c =
    let v = g.C.Coordinate.value in
    let s = g.S.Ruled.ring in
    let ds = elems c.args.numeration.digits.now in
    let z = meaning v c.args.z in
    let es = c.loop-k.entries in
    let e : c.loop-k.k ≡ length es = omega (arith, c.loop-k-test.false, c.loop-k.auto.entries) in
    let l = subst (Leads v s c.args.numeration.width.places ds z (take (length es) es)) (c.is_zero-2.ensures.0 c.if-is_zero-2.true) (subst (λ k. Leads v s c.args.numeration.width.places ds z (take k es) (meaning v c.loop-k.rest)) e c.loop-k.invariant.0) in (
      (omega arith, l, subst (λ k. drop k es ≡ drop k c.args.entries.now) e c.loop-k.invariant.1),
      leads_expands v s g.S.Ruled.lawful c.args.numeration.width.places c.args.numeration.width.some ds (c.all_odd.ensures.0 c.if-not-all_odd.false) z _ l,
    )
