use Rattle.std.proofs.Common.{inl, inr, rules}
use Rattle.std.proofs.lemmas.Bool.{both_ways}
use Rattle.ring.specs.Class.{Even}
use Rattle.numbers.specs.Meaning.{meaning, short}
use Rattle.digits.specs.Digits.{elem_of, elems}
use Rattle.digits.specs.Stepping.{Unclassed}
use Rattle.digits.proofs.Powers.{power_even}
use Rattle.digits.proofs.Firsts.{class_shared, first_shared, first_held}
use Rattle.digits.proofs.numeration.Numeration.step.Goals as goal

pub returns-then-divides : goal.returns-then-divides
returns-then-divides g c =
    let d = c.divides.ensures.0 c.if-divides.true in
    record { below = c.works.ensures.0 c.if-not-works.false; step = inl (d, c.none.ensures, c.quotient.ensures.divided d); first = λ odd. absurd (odd d) }

pub remainder-requires : goal.remainder-requires
remainder-requires g c =
    let s = g.S.Ruled.ring in
    let law = g.S.Ruled.lawful in
    let n = c.residue-near.ensures in
    record {
      inward = n.inward;
      small = n.small;
      far = power_even s law c.args.self.now.width.places _ c.args.self.now.width.some n.class;
      close = power_even s law c.args.self.now.width.places _ c.args.self.now.width.some c.in_ok-digit.ensures.3;
    }

pub returns : goal.returns
returns g c =
    let s = g.S.Ruled.ring in
    let z = meaning g.C.Coordinate.value c.args.z in
    let odd : ¬ (Even s z) = λ d. both_ways c.divides.result c.if-divides.false (c.divides.ensures.1 d) in
    let first = first_shared s c.args.self.now.width.places (elems c.args.self.now.digits.now) z (short c.residue-near.result) (elem_of c.in_ok-digit.digit) c.residue-near.ensures.class c.in_ok-digit.ensures in
    record {
      below = c.works.ensures.0 c.if-not-works.false;
      step = inr (odd, first_held s c.args.self.now.width.places (elems c.args.self.now.digits.now) z (elem_of c.in_ok-digit.digit) first, first.3, c.remainder.ensures);
      first = λ _. first;
    }

pub returns-in_err-digit : goal.returns-in_err-digit
returns-in_err-digit g c =
    let s = g.S.Ruled.ring in
    let z = meaning g.C.Coordinate.value c.args.z in
    let near = short c.residue-near.result in
    let odd : ¬ (Even s z) = λ d. both_ways c.divides.result c.if-divides.false (c.divides.ensures.1 d) in
    let none : Unclassed s c.args.self.now.width.places (elems c.args.self.now.digits.now) z = λ d m a. c.in_err-digit.ensures d m (class_shared s c.args.self.now.width.places z near d c.residue-near.ensures.class a) in
    search rules
