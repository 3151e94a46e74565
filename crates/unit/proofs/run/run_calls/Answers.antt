use Rattle.std.proofs.Common.{◌≡◌, ◌+◌, ◌<◌, min, [], ◌∷◌, ◌++◌, map, reverse, length, get_or, take, drop, set, sym, refl, ap, ◌∙◌, subst, arith, rules}
use mathlib.Core.List.{reverse-append, map-append}
use Rattle.std.proofs.lemmas.List.{get_or-take, length-take, take_more, take_more_set, drop-set-lt}
use Rattle.rules.specs.Views.{new}
use Rattle.rules.specs.Comes.{Comes, event}
use Rattle.rules.specs.declared.calls.Call.{Call}
use Rattle.rules.specs.declared.calls.Call.TheVariants.{Width}
use Rattle.rules.specs.declared.calls.Event.{Event}
use Rattle.rules.proofs.Keeps.{comes_throughout}
use Rattle.rules.proofs.Logs.{next_drop}
use Rattle.unit.specs.Seen.{setting, view}
use Rattle.unit.proofs.Sounds.{sound}
use Rattle.unit.proofs.run.run_calls.Goals as goal

pub loop-i-init : goal.loop-i-init
loop-i-init g c = (c.new-unit.ensures.is ∙ ap new (sym (ap (λ v. v.engine) c.new-unit.ensures.is)), refl, refl, refl)

pub loop-i-preserved : goal.loop-i-preserved
loop-i-preserved g c =
    let inv = c.loop-i.invariant in
    let k = setting g.S.Ruled.ring g.S.Ruled.WIDEST g.S.Kind.Coordinate.LOADING g.S.Kind.Coordinate.WORKING in
    let M = g.E.PointEngine.machine in
    let i = c.loop-i.i in
    let log = c.loop-i.log in
    let calls = c.args.calls.now in
    let start = c.new-unit.result.engine in
    let n = c.min-n.result in
    let call : Call = get_or (take n calls) i (Width 0) in
    let room : i < length log = search rules in
    let within : i < n = omega (arith, c.loop-i-test.true, length-take n calls) in
    let more : i < length calls = omega (arith, c.loop-i-test.true, length-take n calls) in
    let at : call ≡ get_or calls i (Width 0) = get_or-take n calls i (Width 0) within in
    let made : Event = event call c.perform-answer.result c.standing.result in
    let items : take (i + 1) (set log i made) ≡ take i log ++ made ∷ [] = take_more_set log i made room in
    let back : reverse (take (i + 1) (set log i made)) ≡ made ∷ reverse (take i log) = ap reverse items ∙ reverse-append (take i log) (made ∷ []) in (
      subst (λ h. Comes k M start h (view g.S.Kind.Coordinate.value c.perform-answer.new.self)) (sym back) (view g.S.Kind.Coordinate.value c.loop-i.unit, inv.0, c.perform-answer.ensures.told, c.standing.ensures),
      ap (map (λ (e : Event). e.call)) items ∙ map-append (λ (e : Event). e.call) (take i log) (made ∷ []) ∙ ap (λ l. l ++ call ∷ []) inv.1 ∙ ap (λ (d : Call). take i calls ++ d ∷ []) at ∙ sym (take_more calls i (Width 0) more),
      drop-set-lt (i + 1) log i made (omega arith) ∙ next_drop log c.args.log.now i inv.2,
      c.perform-answer.ensures.system ∙ inv.3,
    )

pub returns : goal.returns
returns g c =
    let inv = c.loop-i.invariant in
    let k = setting g.S.Ruled.ring g.S.Ruled.WIDEST g.S.Kind.Coordinate.LOADING g.S.Kind.Coordinate.WORKING in
    let M = g.E.PointEngine.machine in
    let w = view g.S.Kind.Coordinate.value c.loop-i.unit in
    let good = sound g.S.Ruled.ring g.S.Ruled.WIDEST g.S.Kind.Coordinate.LOADING g.S.Kind.Coordinate.WORKING g.S.Ruled.lawful g.S.Ruled.widths g.met.S.Kind.Coordinate.limits in
    let end : c.loop-i.i ≡ min (length c.args.calls.now) (length c.args.log.now) = search rules in
    let started : c.new-unit.result.engine ≡ c.args.engine = ap (λ v. v.engine) c.new-unit.ensures.is in
    record {
      calls = subst (λ n. map (λ (e : Event). e.call) (take n c.loop-i.log) ≡ take n c.args.calls.now) end inv.1;
      throughout = comes_throughout k M good g.met.E.PointEngine.lawful c.args.engine _ w (subst (λ n. Comes k M c.args.engine (reverse (take n c.loop-i.log)) w) end (subst (λ e. Comes k M e (reverse (take c.loop-i.i c.loop-i.log)) w) started inv.0));
      rest = subst (λ n. drop n c.loop-i.log ≡ drop n c.args.log.now) end inv.2;
      system = inv.3 ∙ c.new-unit.ensures.system;
    }
