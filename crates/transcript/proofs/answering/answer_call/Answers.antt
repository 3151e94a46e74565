use Rattle.std.proofs.Common.{◌≡◌, ◌≤◌, [], ◌∷◌, ◌++◌, length, sym, refl, append-nil, arith, rules}
use Rattle.sets.specs.Held.{held}
use Rattle.sets.proofs.Holding.{number}
use Rattle.rules.specs.Views.{ring_of}
use Rattle.rules.specs.History.{Answered}
use Rattle.rules.specs.Comes.{event}
use Rattle.rules.specs.declared.calls.Answer.TheVariants as answers
use Rattle.unit.specs.Seen.{setting, view}
use Rattle.residue.specs.Made.{residue_machine, meaning_of}
use Rattle.transcript.specs.Transcript.{ticked}
use Rattle.replies.specs.Reply.{answer_line}
use Rattle.replies.proofs.Sinks.{given_then}
use Rattle.transcript.proofs.Replies.{counted, loads_some, loads_nothing, follows_run, follows_nothing}
use Rattle.transcript.proofs.answering.answer_call.Goals as goal

pub answer-requires : goal.answer-requires
answer-requires g c =
    let k = setting g.S.Ruled.ring g.S.Ruled.WIDEST g.S.Kind.Coordinate.LOADING g.S.Kind.Coordinate.WORKING in
    let v = view g.S.Kind.Coordinate.value c.args.unit.now in
    let w = view g.S.Kind.Coordinate.value c.perform-answer.new.self in
    let set = c.args.unit.now.set in
    let few : length (held set) ≤ 128 = omega (arith, number set, set.most) in
    counted k residue_machine v w few c.args.call c.perform-answer.result c.perform-answer.ensures.told

pub returns-then-eq : goal.returns-then-eq
returns-then-eq g c = λ e h x.
    let k = setting g.S.Ruled.ring g.S.Ruled.WIDEST g.S.Kind.Coordinate.LOADING g.S.Kind.Coordinate.WORKING in
    let m = meaning_of e in
    let a = c.perform-answer.result in
    let s = c.perform-answer.new.self.standing in
    let reply = event c.args.call a s in
    let kept = c.perform-answer.ensures.kept e h x in
    let answered : Answered k (ring_of m) h reply = kept.1.answers.0 in
    let loaded : a ≡ answers.Loaded = search rules in
    let z = loads_some k (ring_of m) h s c.args.call a loaded answered in
    let ran = c.run_out.ensures e h reply z.0 z.1 kept.0 in
    let text = answer_line c.args.number c.args.call a in (
      ticked ran.0 (reply ∷ h),
      (
        text ++ ran.1.0,
        record { reply = reply; asked = refl; answered = answered; rest = ran.1.0; follows = follows_run k m h reply z.0 ran.0 ran.1.0 z.1 ran.1.1; says = refl },
        ran.1.2,
        given_then g.K.Sink.held c.args.out.now c.answer.new.out c.run_out.new.out text ran.1.0 c.answer.ensures ran.1.3,
      ),
    )

pub returns-else-eq : goal.returns-else-eq
returns-else-eq g c = λ e h x.
    let k = setting g.S.Ruled.ring g.S.Ruled.WIDEST g.S.Kind.Coordinate.LOADING g.S.Kind.Coordinate.WORKING in
    let m = meaning_of e in
    let a = c.perform-answer.result in
    let s = c.perform-answer.new.self.standing in
    let reply = event c.args.call a s in
    let kept = c.perform-answer.ensures.kept e h x in
    let answered : Answered k (ring_of m) h reply = kept.1.answers.0 in
    let other : ¬ (a ≡ answers.Loaded) = search rules in
    let text = answer_line c.args.number c.args.call a in (
      reply ∷ h,
      (
        text,
        record { reply = reply; asked = refl; answered = answered; rest = []; follows = follows_nothing k m h reply (loads_nothing k (ring_of m) h s c.args.call a answered other); says = sym (append-nil text) },
        kept.0,
        c.answer.ensures,
      ),
    )
