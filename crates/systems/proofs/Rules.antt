-- The base divides a exactly where a whole number is 0: what follows for the answers.
use Rattle.std.proofs.Common.{◌≡◌, Bool, true, false, [], ◌∷◌, ℤ, pos, negsuc, ◌+ℤ◌, ◌-ℤ◌, ◌*ℤ◌, nat_abs, Decides, sym, refl, ap, ◌∙◌, subst, arith}
use mathlib.Core.Bool.{false≢true}
use lib.Signed.{quot_z, rem_z}
use Rattle.std.proofs.lemmas.Int.{ints}
use Rattle.ring.specs.Elem.{Elem, 𝟘}
use Rattle.ring.specs.System.{System, mul}
use Rattle.ring.specs.Class.{Even}
use Rattle.ring.proofs.Elements.{same, mulx, #}
use Rattle.ring.proofs.Polynomials.{var, ◌⊕◌, ◌⊗◌, ◌⊖◌, solve}
use Rattle.numbers.specs.Question.{Quotient}
use Rattle.systems.specs.Named.{theta, g5}
use Rattle.systems.specs.Divided.{halved, along, across, fifth}

-- where k a is 0 the quotient of a is q a, and elsewhere there is none
pub record Rule (s : System) (k : Elem → ℤ) (q : Elem → Elem) : Type 0 where
  pub only : (a : Elem) → k a ≡ pos 0 → mul s s.β (q a) ≡ a
  pub all : (a : Elem) → Even s a → k a ≡ pos 0

module _ {s : System} {k : Elem → ℤ} {q : Elem → Elem} (rule : Rule s k q) where
  -- a test of that number tells whether the base divides
  pub answers : (a : Elem) (r : Bool) → Decides r (k a ≡ pos 0) → Decides r (Even s a)
  answers a r d = (λ h. (q a, rule.only a (d.0 h)), λ e. d.1 (rule.all a e))

  -- the element m = q a is the quotient where the base divides
  pub quotient : (a m : Elem) → Even s a → m ≡ q a → Quotient s a m
  quotient a m e made = record { divided = λ d. ap (λ w. mul s s.β w) made ∙ rule.only a (rule.all a d); undivided = λ none. absurd (none e) }

-- by θ, whatever t is
pub theta_rule : (t : ℤ) → Rule (theta t) (λ a. rem_z a.x (pos 2)) (halved t)
theta_rule t = record {
  only = λ a h.
      same (mul (theta t) (theta t).β (halved t a)) a (omega (arith, ints))
      (solve (t ∷ pos 2 ∷ a.y ∷ quot_z a.x (pos 2) ∷ []) (mulx (# 0, # 1) (var 2 ⊕ var 0 ⊗ var 3, # 0 ⊖ var 3)).1 (var 2) tt);
  all = λ a d. let e = ap (λ (w : Elem). w.x) d.1 in omega (arith, ints);
}

-- by 2 + θ where θ² = −1
pub g5_rule : Rule g5 (λ a. rem_z (along a) (pos 5)) fifth
g5_rule = record {
  only = λ a h.
      let q : ℤ = quot_z (along a) (pos 5) in
      let e : along a ≡ pos 5 *ℤ q = omega (arith, ints) in
      let f : quot_z (across a) (pos 5) ≡ (q +ℤ q) -ℤ a.x = fifth_is (across a) ((q +ℤ q) -ℤ a.x) (omega (arith, ints)) in
      same (mul g5 g5.β (fifth a)) a (omega (arith, ints)) (omega (arith, ints));
  all = λ a d.
      let e = ap (λ (w : Elem). w.x) d.1 in
      let f = ap (λ (w : Elem). w.y) d.1 in
      none_left (along a) d.0.x (omega (arith, ints));
}
  where
    fifth_is : (z q : ℤ) → z ≡ pos 5 *ℤ q → quot_z z (pos 5) ≡ q
    fifth_is z q e = omega (arith, ints)

    none_left : (z q : ℤ) → z ≡ pos 5 *ℤ q → rem_z z (pos 5) ≡ pos 0
    none_left z q e = omega (arith, ints)
