use Rattle.std.proofs.Common.{◌≡◌, ◌∷◌, ◌++◌, length, pos, sym, ap, ◌∙◌, subst, arith}
use Rattle.engine.specs.Meaning.{Meaning, act}
use Rattle.engine.specs.declared.Point.{Point}
use Rattle.rules.specs.Views.{View}
use Rattle.rules.specs.History.{stood}
use Rattle.rules.specs.Comes.{Comes}
use Rattle.rules.specs.declared.calls.Standing.TheVariants as standing
use Rattle.rules.proofs.Keeps.{comes_after}
use Rattle.unit.specs.Seen.{setting, view}
use Rattle.unit.proofs.Sounds.{sound}
use Rattle.listing.specs.Lines.{run_line}
use Rattle.residue.specs.declared.ResidueEngine.{ResidueEngine}
use Rattle.residue.specs.Made.{residue_machine}
use Rattle.replies.specs.Sinks.{Given}
use Rattle.transcript.specs.Transcript.{tick_lines, ticked}
use Rattle.transcript.proofs.Courses.{course_none, course_more, course_past, ran_out}
use Rattle.transcript.proofs.Engines.{engines_lawful}
use Rattle.replies.proofs.Sinks.{given_then}
use Rattle.transcript.proofs.running.run_out.Goals as goal

pub loop-ticks-init : goal.loop-ticks-init
loop-ticks-init g c =
    let k = setting g.S.Ruled.ring g.S.Ruled.WIDEST g.S.Kind.Coordinate.LOADING g.S.Kind.Coordinate.WORKING in
    let v = view g.S.Kind.Coordinate.value c.args.unit.now in
    (c.ticks-ticks.ensures, λ e h x z is y. course_none g.K.Sink.held k e h x v c.args.out.now z is y)

pub loop-ticks-smaller : goal.loop-ticks-smaller
loop-ticks-smaller g c =
    let more = c.tick_out.ensures.counts c.loop-ticks-test.true in
    let told = c.ticks-ticks-in-loop-ticks.ensures in
    let fits = c.ticks-ticks-in-loop-ticks.type_inv in
    omega (arith, more, told, fits)

pub loop-ticks-preserved : goal.loop-ticks-preserved
loop-ticks-preserved g c =
    let k = setting g.S.Ruled.ring g.S.Ruled.WIDEST g.S.Kind.Coordinate.LOADING g.S.Kind.Coordinate.WORKING in
    let v = view g.S.Kind.Coordinate.value c.loop-ticks.unit in
    let w = view g.S.Kind.Coordinate.value c.tick_out.new.unit in (
      c.ticks-ticks-in-loop-ticks.ensures,
      λ e h x z is y.
          let q = c.loop-ticks.invariant.1 e h x z is y in
          course_more g.K.Sink.held k e h x v w c.args.out.now c.loop-ticks.out c.tick_out.new.out q (c.loop-ticks-test.ensures.serves e q.past q.comes),
    )

pub returns : goal.returns
returns g c = λ e h x z is y.
    let held = g.K.Sink.held in
    let k = setting g.S.Ruled.ring g.S.Ruled.WIDEST g.S.Kind.Coordinate.LOADING g.S.Kind.Coordinate.WORKING in
    let v = view g.S.Kind.Coordinate.value c.loop-ticks.unit in
    let w = view g.S.Kind.Coordinate.value c.tick_out.new.unit in
    let good = sound g.S.Ruled.ring g.S.Ruled.WIDEST g.S.Kind.Coordinate.LOADING g.S.Kind.Coordinate.WORKING g.S.Ruled.lawful g.S.Ruled.widths g.met.S.Kind.Coordinate.limits in
    let q = c.loop-ticks.invariant.1 e h x z is y in
    let still = c.loop-ticks-test.ensures.serves e q.past q.comes in
    let ds = q.digits in
    let past = course_past held k e h x v c.args.out.now c.loop-ticks.out q still.off in
    let comes : Comes k residue_machine e (ticked ds (x ∷ h)) w = subst (λ (u : View ResidueEngine). Comes k residue_machine e (ticked ds (x ∷ h)) u) (sym still.unit) (subst (λ l. Comes k residue_machine e l v) past q.comes) in
    let after = comes_after k residue_machine good engines_lawful e (ticked ds (x ∷ h)) w comes in
    let ran = ran_out x h z is k residue_machine e w ds after (subst (λ l. stood l ≡ standing.Running → ⊥) past still.off) in
    let total = c.value.result in
    let told : w.engine.total ≡ total = sym (c.value.ensures ∙ ap (λ (r : ResidueEngine). r.total) c.engine.ensures) in
    let ticks : c.loop-ticks.ticks ≡ length ds = c.loop-ticks.invariant.0 ∙ sym (ap (λ (u : View ResidueEngine). u.ticks) still.unit) ∙ ran.ticks in
    let given = subst (λ b. Given held c.args.out.now b (tick_lines ds)) (sym still.sink) q.given in (
      ds,
      (
        tick_lines ds ++ run_line c.loop-ticks.ticks total,
        record {
          expansion = ran.expansion;
          total = total;
          acted = sym (ap (λ (m : Meaning Point). (act m z m.start).u) after.meaning) ∙ sym (ap (λ (p : Point). p.u) ran.total) ∙ ap pos told;
          says = ap (λ n. tick_lines ds ++ run_line n total) ticks;
        },
        comes,
        given_then held c.args.out.now c.tick_out.new.out c.print.new.out (tick_lines ds) (run_line c.loop-ticks.ticks total) given c.print.ensures,
      ),
    )
