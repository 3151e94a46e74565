use Rattle.std.proofs.Common.{◌∙◌}
use Rattle.numbers.specs.Meaning.{short}
use Rattle.digits.specs.Digits.{elem_of, elems}
use Rattle.verdict.proofs.Taken.{taken_is, stuck_is}
use Rattle.verdict.proofs.recoding.calls.RecodingDynamics.step.Goals as goal

pub returns-in-Some : goal.returns-in-Some
returns-in-Some g c =
    let r = c.args.self.now in
    taken_is g.S.Ruled.ring g.S.Ruled.lawful r.numeration.width.places r.numeration.width.some (elems r.numeration.digits.now) (short c.args.z) (elem_of c.in-Some._digit) (short c.in-Some.remainder) c.in-Some.ensures

pub returns-in-None : goal.returns-in-None
returns-in-None g c =
    let r = c.args.self.now in
    c.zero.ensures ∙ stuck_is g.S.Ruled.ring g.S.Ruled.lawful r.numeration.width.places r.numeration.width.some (elems r.numeration.digits.now) (short c.args.z) c.requires c.in-None.ensures
