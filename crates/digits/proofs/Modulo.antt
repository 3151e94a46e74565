-- Residues modulo p^w: β^w divides p^w, so an element and its residue are of one class.
use Rattle.std.proofs.Common.{◌≡◌, ℕ, zero, suc, ◌+◌, ◌*◌, ◌/◌, ◌%◌, ◌^◌, ◌<◌, ◌≤◌, ℤ, pos, negsuc, ◌-ℤ◌, ◌*ℤ◌, neg_ℤ, nat_abs, sym, ap, ◌∙◌, le_trans, mod-lt, div-add-mod', arith}
use native.Mathlib.Nat.{pow-le-pow_left, pow-le-pow_right, pow-zero, pow-succ'}
use lib.IntN.{*ℤ_comm}
use lib.Signed.{rem_z}
use Rattle.std.proofs.lemmas.Int.{ints}
use Rattle.ring.specs.Elem.{Elem, Below, sub}
use Rattle.ring.specs.System.{System, Lawful, mul, pow}
use Rattle.ring.specs.Class.{Divides, SameClass}
use Rattle.ring.proofs.Integers.{lin, neg_mul, mul_assoc as int_assoc}
use Rattle.ring.proofs.Elements.{same, mul_assoc, mul_comm, mul_one}
use Rattle.ring.proofs.Norms.{conj}
use Rattle.ring.proofs.Classes.{conj_whole, whole_mul}
use Rattle.numbers.specs.Question.{rests}

-- ---- powers of p, at most 8^8
pub power_small : (p k : ℕ) → 2 ≤ p → p ≤ 8 → k ≤ 8 → p ^ k ≤ 2 ^ 24
power_small p k o h l = le_trans (pow-le-pow_right (omega arith) l) (pow-le-pow_left h 8)

-- ---- remainders towards 0: z less its remainder is a multiple of m, and no farther from 0 than z
pub record Rest (m : ℕ) (z : ℤ) : Type 0 where
  pub quotient : ℤ
  pub small : nat_abs (rem_z z (pos m)) < m
  pub inward : nat_abs (z -ℤ rem_z z (pos m)) ≤ nat_abs z
  pub multiple : pos m *ℤ quotient ≡ z -ℤ rem_z z (pos m)

negative : (m k r n : ℕ) → n ≡ k * m + r → pos m *ℤ neg_ℤ (pos k) ≡ neg_ℤ (pos n) -ℤ neg_ℤ (pos r)
negative m k r n h = let e : pos m *ℤ neg_ℤ (pos k) ≡ neg_ℤ (pos (k * m)) = *ℤ_comm (pos m) (neg_ℤ (pos k)) ∙ neg_mul (pos k) (pos m) in omega (arith, lin)

pub rest_of : (m : ℕ) (z : ℤ) → 2 ≤ m → Rest m z
rest_of m (pos a) h =
    let o : 0 < m = omega arith in
    let l = mod-lt a o in
    let d = div-add-mod' a m in
    record { quotient = pos (a / m); small = l; inward = omega (arith, ints); multiple = omega (arith, ints) }
rest_of m (negsuc a) h =
    let o : 0 < m = omega arith in
    let l = mod-lt (suc a) o in
    let d = div-add-mod' (suc a) m in
    record { quotient = neg_ℤ (pos (suc a / m)); small = omega (arith, ints); inward = omega (arith, ints); multiple = negative m (suc a / m) (suc a % m) (suc a) (sym d) }

-- ---- β^w divides p^w·u
module _ (s : System) (g : Lawful s) where
  abbrev times : ℕ → Elem → Elem
  times m u = record { x = pos m *ℤ u.x; y = pos m *ℤ u.y }

  times_times : (a b : ℕ) (u : Elem) → times a (times b u) ≡ times (a * b) u
  times_times a b u = same (times a (times b u)) (times (a * b) u) (sym (int_assoc (pos a) (pos b) u.x)) (sym (int_assoc (pos a) (pos b) u.y))

  pub power_divides : (w : ℕ) (u : Elem) → Divides s (pow s s.β w) (times (s.p ^ w) u)
  power_divides zero u = (u, mul_one s u ∙ same u (times (s.p ^ 0) u) (by u.x) (by u.y))
    where
      by : (a : ℤ) → a ≡ pos (s.p ^ 0) *ℤ a
      by a = let one : a ≡ pos 1 *ℤ a = omega (arith, ints) in one ∙ sym (ap (λ k. pos k *ℤ a) (pow-zero s.p))
  power_divides (suc w) u =
      let b = s.β in
      let c = conj s b in
      let r = power_divides w u in
      let v = pow s b w in (
        mul s c r.0,
        mul_assoc s b v (mul s c r.0) ∙ ap (mul s b) (sym (mul_assoc s v c r.0) ∙ ap (λ k. mul s k r.0) (mul_comm s v c) ∙ mul_assoc s c v r.0 ∙ ap (mul s c) r.1)
            ∙ sym (mul_assoc s b c (times (s.p ^ w) u)) ∙ ap (λ k. mul s k (times (s.p ^ w) u)) (conj_whole s b s.p g.p_is)
            ∙ whole_mul s s.p (let h = g.p_low in omega arith) (times (s.p ^ w) u) ∙ times_times s.p (s.p ^ w) u ∙ ap (λ k. times k u) (sym (pow-succ' s.p w)),
      )

  -- an element and its residue
  pub residue_class : (w : ℕ) (z : Elem) → 2 ≤ s.p ^ w → SameClass s w z (rests z (pos (s.p ^ w)))
  residue_class w z h =
      let a = rest_of (s.p ^ w) z.x h in
      let b = rest_of (s.p ^ w) z.y h in
      let u : Elem = record { x = a.quotient; y = b.quotient } in
      let d = power_divides w u in
      (d.0, d.1 ∙ same (times (s.p ^ w) u) (sub z (rests z (pos (s.p ^ w)))) a.multiple b.multiple)

pub residue_small : (m B : ℕ) (z : Elem) → 2 ≤ m → m ≤ B → Below B (rests z (pos m))
residue_small m B z h l = let a = (rest_of m z.x h).small in let b = (rest_of m z.y h).small in record { in_x = omega arith; in_y = omega arith }

pub residue_inward : (m L : ℕ) (z : Elem) → 2 ≤ m → Below L z → Below L (sub z (rests z (pos m)))
residue_inward m L z h l = let a = (rest_of m z.x h).inward in let b = (rest_of m z.y h).inward in record { in_x = omega (arith, l.in_x); in_y = omega (arith, l.in_y) }
