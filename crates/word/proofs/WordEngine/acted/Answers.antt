use Rattle.std.proofs.Common.{nat_abs, sym, ap, ◌∙◌, w32}
use Rattle.std.proofs.lemmas.Int.{to_z-of_z}
use Rattle.word.specs.Word.{words, if_odd}
use Rattle.word.specs.Made.{point_of, meaning_of}
use Rattle.word.specs.Points.{act_is}
use Rattle.word.proofs.WordEngine.acted.Goals as goal

pub returns : goal.returns
returns c =
    let e = c.args.self.now in
    let m = meaning_of e in
    let x = c.args.x in
    let y = c.args.y in
    let w = c.args.w in
    let r = c.theta.result in
    c.sum.ensures ∙
    ap (λ p. m.sum p (point_of c.times-2.result)) (c.times.ensures ∙ ap (λ z. words (if_odd z w.u) (if_odd z w.v)) (to_z-of_z w32 x c.ranges.x)) ∙
    ap (λ p. m.sum (words (if_odd x w.u) (if_odd x w.v)) p) (c.times-2.ensures ∙ ap (λ z. words (if_odd z r.u) (if_odd z r.v)) (to_z-of_z w32 y c.ranges.y) ∙ ap (λ p. words (if_odd y (nat_abs p.u)) (if_odd y (nat_abs p.v))) c.theta.ensures) ∙
    sym (act_is e.ring.t e.ring.n e.start.u e.start.v x y (point_of w))
