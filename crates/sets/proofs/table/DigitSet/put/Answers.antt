use Rattle.std.proofs.lemmas.Result.{err_from_is_err_and}
use Rattle.refusals.specs.declared.Refusal.TheVariants.{Range}
use Rattle.std.proofs.Common.{◌≡◌, None, Some, false, sym, refl, ◌∙◌, subst, inl, inr, arith}
use Rattle.std.proofs.lemmas.Bool.{both_ways}
use Rattle.std.specs.List.{ContainsAt as Has}
use Rattle.ring.specs.Elem.{Elem}
use Rattle.ring.specs.Class.{Even, InRange, Classed}
use Rattle.digits.specs.Digits.{elem_of}
use Rattle.sets.specs.Held.{held}
use Rattle.sets.specs.Changes.{Added, Puttable, Unput}
use Rattle.sets.proofs.Holding.{made, not_made}
use Rattle.sets.proofs.Distinct.{own_class}
use Rattle.sets.proofs.table.DigitSet.put.Given as given
use Rattle.sets.proofs.table.DigitSet.put.Goals as goal
use Rattle.sets.proofs.table.DigitSet.put.Goals.{After-has_class, then-has_class-via-then-has_class, then-has_class-via-else-has_class+then-len-eq-ROOM}

-- the element of the digit, and what the first two tests leave
module _ (g : given.Over) (c : goal.After-has_class g) where
  abbrev z : Elem
  z = record { x = c.args.x; y = c.args.y }

  is : elem_of c.in_ok-digit.digit ≡ z
  is = let some : c.new.result ≡ Some c.in_ok-digit.digit = grind arith in
      made c.args.x c.args.y c.ranges.x c.ranges.y c.new.result c.new.ensures c.in_ok-digit.digit some

  ranged : ¬ (¬ (InRange z))
  ranged n = n (subst InRange (c.element.ensures.is ∙ is) c.element.ensures.ranged)

  odd : ¬ (Even g.S.Ruled.ring z)
  odd h = both_ways c.divides.result c.if-divides.false (c.divides.ensures.1 (subst (Even g.S.Ruled.ring) (sym (c.element.ensures.is ∙ is)) h))

  new : c.has_class.result ≡ false → ¬ (Classed g.S.Ruled.ring c.args.self.now.width.places (Has (held c.args.self.now)) z)
  new f h = both_ways c.has_class.result f (c.has_class.ensures.1 (subst (Classed g.S.Ruled.ring c.args.self.now.width.places (Has (held c.args.self.now))) (sym is) h))

pub returns-in_err-digit : goal.returns-in_err-digit
unfolding Unput
returns-in_err-digit g c =
    let p = err_from_is_err_and c.from_residual.result c.from_residual.ensures.1 in
    let none : c.new.result ≡ None = grind arith in
    let why : c.in_err-digit.field-0.0 ≡ Range = grind arith in
    rw (p.1, p.2) (inl (not_made c.args.x c.args.y c.ranges.x c.ranges.y c.new.result c.new.ensures none, why), refl)

pub returns-then-divides : goal.returns-then-divides
unfolding Unput
returns-then-divides g c =
    let some : c.new.result ≡ Some c.in_ok-digit.digit = grind arith in
    let is = c.element.ensures.is ∙ made c.args.x c.args.y c.ranges.x c.ranges.y c.new.result c.new.ensures c.in_ok-digit.digit some in
    (inr (λ n. n (subst InRange is c.element.ensures.ranged), inl (subst (Even g.S.Ruled.ring) is (c.divides.ensures.0 c.if-divides.true), refl)), refl)

pub returns-then-has_class : goal.returns-then-has_class
unfolding Unput
returns-then-has_class g c =
    let a = (goal.at.returns-then-has_class g c).After-has_class in
    let s = g.S.Ruled.ring in
    let w = c.args.self.now.width.places in
    elim c.then-has_class.branch [
      | then-has_class-via-then-has_class v ↦ (inr (ranged g a, inr (odd g a, inl (subst (Classed s w (Has (held c.args.self.now))) (is g a) (c.has_class.ensures.0 v.if-has_class.true), refl))), refl)
      | then-has_class-via-else-has_class+then-len-eq-ROOM v ↦ (inr (ranged g a, inr (odd g a, inr (new g a v.if-has_class.false, inl (omega (arith, v.len.ensures.is, v.if-len-eq-ROOM.true), refl)))), refl)
    ]

pub push-requires-clause-other : goal.push-requires-clause-other
push-requires-clause-other g c = λ h. both_ways c.has_class.result c.if-has_class.false (c.has_class.ensures.1 (elem_of c.in_ok-digit.digit, h, own_class g.S.Ruled.ring c.args.self.now.width.places (elem_of c.in_ok-digit.digit)))

pub returns : goal.returns
unfolding Puttable
returns g c =
    let a = (goal.at.returns g c).After-has_class in
    ((ranged g a, (odd g a, (new g a c.if-has_class.false, (λ h. c.if-len-eq-ROOM.false (omega (arith, c.len.ensures.is, c.len.ensures.most)), tt)))), subst (λ e. Added c.args.self.now c.push.new.self e c.push.result) (is g a) c.push.ensures)
