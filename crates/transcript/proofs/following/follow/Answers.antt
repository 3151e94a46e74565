use Rattle.std.proofs.Common.{[], subst, arith}
use Rattle.sheet.specs.Parting.{bytes}
use Rattle.listing.specs.Lines.{refusal_line}
use Rattle.unit.specs.Seen.{setting, view}
use Rattle.refusals.specs.declared.Refusal.TheVariants as refusal
use Rattle.residue.specs.Made.{meaning_of}
use Rattle.replies.proofs.Sinks.{given_none}
use Rattle.replies.specs.Sinks.{Given}
use Rattle.transcript.proofs.Progress.{cut_split, cut_none, empty_free, split_length, lists_ended, lists_broken, progress_none, progress_more, progress_end}
use Rattle.transcript.proofs.following.follow.Goals as goal

pub loop-line-init : goal.loop-line-init
loop-line-init g c =
    let k = setting g.S.Ruled.ring g.S.Ruled.WIDEST g.S.Kind.Coordinate.LOADING g.S.Kind.Coordinate.WORKING in
    let v = view g.S.Kind.Coordinate.value c.args.unit.now in
    (c.args.rest.within, omega (arith, c.args.rest.short), λ e h x. progress_none g.K.Sink.held k e h c.args.rest.lines c.args.out.now v x)

pub loop-line-preserved : goal.loop-line-preserved
loop-line-preserved g c =
    let k = setting g.S.Ruled.ring g.S.Ruled.WIDEST g.S.Kind.Coordinate.LOADING g.S.Kind.Coordinate.WORKING in
    let v = view g.S.Kind.Coordinate.value c.loop-line.unit in
    let w = view g.S.Kind.Coordinate.value c.answer_line.new.unit in
    let at = c.loop-line.left in
    let line = c.in-Ok-Some.line in
    let behind = c.in-Ok-Some.behind in
    let split = cut_split at line behind c.in-Ok-Some.field-0 c.in-Ok-Some.ensures c.in-Ok-Some.field-0-is in
    let parts = split_length at line behind split in (
      omega (arith, c.loop-line.invariant.0, split.ends),
      omega (arith, c.loop-line.invariant.1, parts),
      λ e h x.
          let p = c.loop-line.invariant.2 e h x in
          let q = c.answer_line.ensures e p.past p.comes in
          progress_more g.K.Sink.held k e h c.args.rest.lines c.args.out.now at line behind c.loop-line.number v w c.loop-line.out c.answer_line.new.out p split q.0 q.1.0 q.1.1 q.1.2 q.1.3,
    )

pub answer_line-requires : goal.answer_line-requires
answer_line-requires g c =
    let at = c.loop-line.left in
    let line = c.in-Ok-Some.line in
    let behind = c.in-Ok-Some.behind in
    let split = cut_split at line behind c.in-Ok-Some.field-0 c.in-Ok-Some.ensures c.in-Ok-Some.field-0-is in
    omega (arith, c.loop-line.invariant.0, split.here, split_length at line behind split)

pub returns-in-Ok-None : goal.returns-in-Ok-None
returns-in-Ok-None g c = λ e h x.
    let k = setting g.S.Ruled.ring g.S.Ruled.WIDEST g.S.Kind.Coordinate.LOADING g.S.Kind.Coordinate.WORKING in
    let w = view g.S.Kind.Coordinate.value c.loop-line.unit in
    let at = c.loop-line.left in
    let p = c.loop-line.invariant.2 e h x in
    let none = cut_none at c.in-Ok-None.field-0 c.in-Ok-None.ensures c.in-Ok-None.field-0-is in
    progress_end g.K.Sink.held k e h c.args.rest.lines c.args.out.now at c.loop-line.number w c.loop-line.out c.loop-line.out p (empty_free (bytes at) none) [] (lists_ended k (meaning_of e) c.loop-line.number (bytes at) p.past none) (given_none g.K.Sink.held c.loop-line.out)

pub returns-in-Err : goal.returns-in-Err
returns-in-Err g c = λ e h x.
    let k = setting g.S.Ruled.ring g.S.Ruled.WIDEST g.S.Kind.Coordinate.LOADING g.S.Kind.Coordinate.WORKING in
    let w = view g.S.Kind.Coordinate.value c.loop-line.unit in
    let at = c.loop-line.left in
    let p = c.loop-line.invariant.2 e h x in
    let cut = c.in-Err.ensures in
    let told = subst (λ y. Given g.K.Sink.held c.loop-line.out c.print.new.out (refusal_line y c.loop-line.number)) cut.0 c.print.ensures in
    progress_end g.K.Sink.held k e h c.args.rest.lines c.args.out.now at c.loop-line.number w c.loop-line.out c.print.new.out p cut.2 (refusal_line refusal.Line c.loop-line.number) (lists_broken k (meaning_of e) c.loop-line.number (bytes at) p.past cut.1) told
