use Rattle.std.proofs.Common.{◌≡◌, ◌+◌, ◌*◌, ◌^◌, ◌≤◌, sym, ap, ◌∙◌, subst, arith}
use Rattle.ring.specs.Elem.{Below, add, sub}
use Rattle.ring.specs.System.{mul}
use Rattle.ring.specs.Class.{Even}
use Rattle.numbers.specs.Meaning.{meaning, short}
use Rattle.digits.specs.Digits.{elem_of}
use Rattle.digits.proofs.Parts.{quotient_below, sum_below, parts, near_less, wider}
use Rattle.digits.proofs.numeration.steps.remainder.Given as given
use Rattle.digits.proofs.numeration.steps.remainder.Goals as goal
use Rattle.digits.proofs.numeration.steps.remainder.Goals.{After-from_short-2}

pub quotient-low-requires : goal.quotient-low-requires
quotient-low-requires g c =
    wider (2 ^ 24 + 255) (2 ^ 28) (short c.subtract.result) (omega arith)
    (near_less g.S.Ruled.ring g.S.Ruled.lawful (short c.args.near) (elem_of c.args.digit) (short c.element.result) (short c.subtract.result) c.element.ensures.is c.element.ensures.ranged c.requires.small c.subtract.ensures).1

-- the two quotients, as far as the last of them
module _ (g : given.Over) (c : goal.After-from_short-2 g) where
  high : mul g.S.Ruled.ring g.S.Ruled.ring.β (meaning g.C.Coordinate.value c.quotient-high.result) ≡ sub (meaning g.C.Coordinate.value c.args.z) (short c.args.near)
  high =
      let is = c.minus.ensures ∙ ap (sub (meaning g.C.Coordinate.value c.args.z)) c.from_short.ensures in
      c.quotient-high.ensures.divided (subst (Even g.S.Ruled.ring) (sym is) c.requires.far) ∙ is

  close : (short c.subtract.result ≡ sub (short c.args.near) (elem_of c.args.digit)) × Below (2 ^ 24 + 255) (short c.subtract.result)
  close = near_less g.S.Ruled.ring g.S.Ruled.lawful (short c.args.near) (elem_of c.args.digit) (short c.element.result) (short c.subtract.result) c.element.ensures.is c.element.ensures.ranged c.requires.small c.subtract.ensures

  low : mul g.S.Ruled.ring g.S.Ruled.ring.β (short c.quotient-low.result) ≡ short c.subtract.result
  low = c.quotient-low.ensures.divided (subst (Even g.S.Ruled.ring) (sym close.0) c.requires.close)

pub plus-requires : goal.plus-requires
plus-requires g c =
    let s = g.S.Ruled.ring in
    let law = g.S.Ruled.lawful in
    let W = g.C.Coordinate.WORKING in
    let v = g.C.Coordinate.value in
    let h = quotient_below s law W (sub (meaning v c.args.z) (short c.args.near)) (meaning v c.quotient-high.result) (high g c) c.requires.inward in
    let l = quotient_below s law (2 ^ 24 + 255) (short c.subtract.result) (short c.quotient-low.result) (low g c) (close g c).1 in
    let room : 2 ^ 24 + 255 ≤ W = omega (arith, g.met.C.Coordinate.limits.2) in
    sum_below s law W (2 ^ 24 + 255) (meaning v c.quotient-high.result) (meaning v c.from_short-2.result) h (subst (Below (2 * (2 ^ 24 + 255))) (sym c.from_short-2.ensures) l) room

pub returns : goal.returns
returns g c =
    let s = g.S.Ruled.ring in
    let v = g.C.Coordinate.value in
    let d = (goal.at.returns g c).After-from_short-2 in
    ap (mul s s.β) (c.plus.ensures ∙ ap (add (meaning v c.quotient-high.result)) c.from_short-2.ensures)
    ∙ parts s g.S.Ruled.lawful (meaning v c.args.z) (short c.args.near) (elem_of c.args.digit) (meaning v c.quotient-high.result) (short c.quotient-low.result) (high g d) (low g d ∙ (close g d).0)
