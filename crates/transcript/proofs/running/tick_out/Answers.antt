use Rattle.std.proofs.Common.{◌≡◌, sym, ◌∙◌, rules}
use mathlib.Core.Bool.{false≢true}
use Rattle.rules.specs.Views.{ring_of}
use Rattle.rules.specs.declared.calls.Standing.TheVariants as standing
use Rattle.listing.specs.Lines.{tick_line}
use Rattle.replies.specs.Sinks.{Given}
use Rattle.unit.specs.Seen.{setting, view}
use Rattle.numbers.specs.Meaning.{short}
use Rattle.residue.specs.Made.{residue_machine, meaning_of}
use Rattle.transcript.proofs.Ticks.{comes_stands, tick_digit, tick_leaves}
use Rattle.transcript.proofs.running.tick_out.Goals as goal

pub returns-in_default : goal.returns-in_default
returns-in_default g c =
    let k = setting g.S.Ruled.ring g.S.Ruled.WIDEST g.S.Kind.Coordinate.LOADING g.S.Kind.Coordinate.WORKING in
    let v = view g.S.Kind.Coordinate.value c.args.unit.now in
    let on : c.standing.result ≡ standing.Running = search rules in
    record {
      counts = λ e. absurd (false≢true e);
      serves = λ e h x.
          let running = sym (comes_stands k residue_machine e h v x) ∙ sym c.standing.ensures ∙ on in
          let q = tick_digit k (ring_of (meaning_of e)) h c.perform.new.self.standing c.perform.result (c.perform.ensures.kept e h x).1.answers.0 running in
          absurd (c.in_default.not-Digit q.0 q.1);
    }

pub returns-clause-serves : goal.returns-clause-serves
returns-clause-serves g c =
    let k = setting g.S.Ruled.ring g.S.Ruled.WIDEST g.S.Kind.Coordinate.LOADING g.S.Kind.Coordinate.WORKING in
    let v = view g.S.Kind.Coordinate.value c.args.unit.now in
    let w = view g.S.Kind.Coordinate.value c.perform.new.self in
    let on : c.standing.result ≡ standing.Running = search rules in
    let d = c.in-Digit.field-0 in
    let made = c.in-Digit.ensures in
    let given : Given g.K.Sink.held c.args.out.now c.print.new.out (tick_line d.x d.y) = search rules in
    λ e h x. record {
      digit = short d;
      stands = w.standing;
      on = sym (comes_stands k residue_machine e h v x) ∙ sym c.standing.ensures ∙ on;
      left = tick_leaves k residue_machine v w d made.told;
      comes = (made.kept e h x).0;
      given = given;
    }
