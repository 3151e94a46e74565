use Rattle.std.proofs.Common.{◌≡◌, [], ◌++◌, refl, ap, ◌∙◌, subst, inl, inr}
use Rattle.ring.specs.System.{System}
use Rattle.listing.specs.Lines.{system_line}
use Rattle.unit.specs.Seen.{setting}
use Rattle.transcript.specs.Transcript.{Goes_on}
use Rattle.transcript.proofs.Choosing.{made_fits, refused_by}
use Rattle.replies.proofs.Sinks.{given_then}
use Rattle.transcript.proofs.opening.start.Goals as goal

pub returns-in-Ok : goal.returns-in-Ok
returns-in-Ok g c =
    let held = g.K.Sink.held in
    let k = setting g.S.Ruled.ring g.S.Ruled.WIDEST g.S.Kind.Coordinate.LOADING g.S.Kind.Coordinate.WORKING in
    let q = c.args.choice in
    let made = c.in-Ok.ensures in
    let e = c.in-Ok.engine in
    let went = c.follow.ensures e [] c.new-unit.ensures.is in
    let text = went.1.0 in
    let on = subst (λ m. Goes_on k m 2 c.args.rest.lines [] text) made.2.0 went.1.1 in
    let p : c.BASE_NORM.result ≡ k.ring.p = c.BASE_NORM.ensures ∙ ap (λ (s : System). s.p) g.S.Ruled.ruled in (
      system_line c.BASE_NORM.result ++ text,
      inr (made_fits k q.modulus q.root q.start e made, (text, on, ap (λ n. system_line n ++ text) p)),
      given_then held c.args.out.now c.print.new.out c.follow.new.out (system_line c.BASE_NORM.result) text c.print.ensures went.1.3,
    )

pub returns-in-Err : goal.returns-in-Err
returns-in-Err g c =
    let k = setting g.S.Ruled.ring g.S.Ruled.WIDEST g.S.Kind.Coordinate.LOADING g.S.Kind.Coordinate.WORKING in
    let q = c.args.choice in
    (_, inl (c.in-Err.why, refused_by k q.modulus q.root q.start c.in-Err.why c.in-Err.ensures, refl), c.print-in-Err.ensures)
