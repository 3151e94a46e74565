use Rattle.std.proofs.Common.{ap, ◌∙◌, arith}
use borrow.Author.Differences.{ints}
use Rattle.ring.specs.Elem.{Elem}
use Rattle.ring.proofs.Elements.{same}
use Rattle.expand.proofs.lower.Goals as goal

pub returns : goal.returns
returns g c =
    let law = g.met.C.Coordinate in
    let e = c.from_short-e.ensures ∙ c.element.ensures.is in
    let ex = ap (λ (z : Elem). z.x) e in
    let ey = ap (λ (z : Elem). z.y) e in
    let a = law.sum _ _ _ c.add.ensures in
    let b = law.difference _ _ _ c.sub.ensures in
    let d = law.sum _ _ _ c.add-2.ensures in
    let f = law.sum _ _ _ c.add-3.ensures in
    same _ _ (omega (arith, ints, a, b, ex)) (omega (arith, ints, d, f, ey))
