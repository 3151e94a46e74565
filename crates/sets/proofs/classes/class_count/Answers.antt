use Rattle.std.proofs.Common.{◌≡◌, ℕ, suc, ◌-◌, ◌*◌, ◌/◌, ◌^◌, ◌<◌, ◌≤◌, ap, ◌∙◌, le_trans, mul_comm, mul-le-mul_left, div-mul-le_self, arith}
use native.Mathlib.Nat.{mul-div_cancel_left, pow-succ'}
use Rattle.ring.specs.System.{System, classes}
use Rattle.sets.proofs.classes.class_count.Given as given
use Rattle.sets.proofs.classes.class_count.Goals as goal

counted : (p q m w : ℕ) → q ≡ p → 0 < p → 1 ≤ w → m ≡ p ^ w → m / q * (q - 1) ≡ classes p w
counted p q m w e o l h =
    let f : w ≡ suc (w - 1) = omega arith in
    let d = ap (λ (k : ℕ). k / p) (h ∙ ap (λ (k : ℕ). p ^ k) f ∙ pow-succ' p (w - 1)) ∙ mul-div_cancel_left (p ^ (w - 1)) o in
    ap (λ (k : ℕ). m / k * (k - 1)) e ∙ ap (λ (k : ℕ). k * (p - 1)) d ∙ mul_comm (p ^ (w - 1)) (p - 1)

-- the constant is the norm of the base
norm : (g : given.Over) {q : ℕ} → q ≡ g.S.Ruled.BASE_NORM → q ≡ g.S.Ruled.ring.p
norm g e = e ∙ ap (λ (s : System). s.p) g.S.Ruled.ruled

pub overflow_mul-result : goal.overflow_mul-result
overflow_mul-result g c =
    let m = c.modulus.result in
    let p = c.BASE_NORM-p.result in
    let h : m / p * (p - 1) ≤ m = le_trans (mul-le-mul_left (m / p) (omega arith)) (div-mul-le_self m p) in
    record { fits = omega (arith, h, c.modulus.ensures.most) }

pub returns : goal.returns
returns g c = counted g.S.Ruled.ring.p c.BASE_NORM-p.result c.modulus.result c.args.width.places (norm g c.BASE_NORM-p.ensures) (omega (arith, g.S.Ruled.lawful.p_low)) c.args.width.some c.modulus.ensures.is
