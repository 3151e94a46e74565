use Rattle.std.proofs.Common.{◌≡◌, ℕ, ◌+◌, ◌^◌, sym, refl, ap, ◌∙◌, subst, arith}
use Rattle.std.proofs.lemmas.Bool.{both_ways}
use Rattle.ring.specs.Elem.{Elem, sub}
use Rattle.ring.specs.System.{System, pow}
use Rattle.ring.specs.Class.{Divides, SameClass}
use Rattle.numbers.specs.Meaning.{short}
use Rattle.digits.specs.Digits.{elem_of}
use Rattle.digits.proofs.Powers.{Inside, inside_below, inside_quotient, below_inside, less_digit, begun, turn, stuck, finished}
use Rattle.digits.proofs.numeration.Numeration.same_class.Goals as goal

pub loop-k-init : goal.loop-k-init
loop-k-init g c =
    let s = g.S.Ruled.ring in
    let law = g.S.Ruled.lawful in
    let start = less_digit s law (2 ^ 24) (short c.args.a) (short c.element.result) c.requires c.element.ensures.ranged in (
      subst (Inside s (2 ^ 28)) (sym c.subtract-rest.ensures) (below_inside s law (2 ^ 24 + 255) (2 ^ 28) _ start (omega arith) (omega arith)),
      (begun s law c.places-k-end.result (short c.subtract-rest.result)).0,
      (begun s law c.places-k-end.result (short c.subtract-rest.result)).1,
    )

pub divides-requires : goal.divides-requires
divides-requires g c = inside_below g.S.Ruled.ring g.S.Ruled.lawful _ _ c.loop-k.invariant.0

pub quotient-rest-requires : goal.quotient-rest-requires
quotient-rest-requires g c = inside_below g.S.Ruled.ring g.S.Ruled.lawful _ _ c.loop-k.invariant.0

-- the loop ends at the width and began at the difference
module _ (s : System) (n w : ℕ) (r a e d : Elem) (p : n ≡ w) (q : e ≡ d) (h : r ≡ sub a e) where
  pub to-difference : Divides s (pow s s.β n) r → SameClass s w a d
  to-difference x = subst (λ k. Divides s (pow s s.β k) (sub a d)) p (subst (Divides s (pow s s.β n)) (h ∙ ap (sub a) q) x)

  pub of-difference : SameClass s w a d → Divides s (pow s s.β n) r
  of-difference x = subst (Divides s (pow s s.β n)) (sym (h ∙ ap (sub a) q)) (subst (λ k. Divides s (pow s s.β k) (sub a d)) (sym p) x)

pub returns-then-not-divides : goal.returns-then-not-divides
returns-then-not-divides g c =
    let s = g.S.Ruled.ring in
    let start = of-difference s c.places-k-end.result c.args.self.now.width.places (short c.subtract-rest.result) (short c.args.a) (short c.element.result) (elem_of c.args.digit) c.places-k-end.ensures.is c.element.ensures.is c.subtract-rest.ensures in
    let no = both_ways c.divides.result c.if-not-divides.true in (
      λ e. absurd (both_ways _ refl e),
      λ d. absurd (no (c.divides.ensures.1 (stuck s g.S.Ruled.lawful c.places-k-end.result c.loop-k.k (short c.loop-k.rest) c.loop-k-test.true (c.loop-k.invariant.2 (start d))))),
    )

pub loop-k-preserved : goal.loop-k-preserved
loop-k-preserved g c =
    let s = g.S.Ruled.ring in
    let law = g.S.Ruled.lawful in
    let e = c.quotient-rest.ensures.divided (c.divides.ensures.0 c.if-not-divides.false) in
    let t = turn s law _ c.loop-k.k _ _ _ c.loop-k-test.true e (c.loop-k.invariant.1, c.loop-k.invariant.2) in
    (inside_quotient s law _ _ _ e c.loop-k.invariant.0, t.0, t.1)

pub returns : goal.returns
returns g c =
    let s = g.S.Ruled.ring in
    let end = to-difference s c.places-k-end.result c.args.self.now.width.places (short c.subtract-rest.result) (short c.args.a) (short c.element.result) (elem_of c.args.digit) c.places-k-end.ensures.is c.element.ensures.is c.subtract-rest.ensures in (
      λ _. end (c.loop-k.invariant.1 (finished s g.S.Ruled.lawful c.places-k-end.result c.loop-k.k (short c.loop-k.rest) c.loop-k-test.false)),
      λ _. refl,
    )
