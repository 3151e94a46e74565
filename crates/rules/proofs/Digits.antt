-- Digits of pairwise different classes: one more, one less, how many there are, and when they are full.
use Rattle.std.proofs.Common.{◌≡◌, ℕ, zero, suc, ◌-◌, ◌*◌, ◌^◌, ◌≤◌, true, false, ◌⊎◌, List, [], ◌∷◌, ◌++◌, length, get_or, sym, refl, ap, ◌∙◌, subst, inl, inr, ⊎_elim, mul-le-mul, mul-le-mul_left, arith}
use native.Mathlib.Nat.{pow-zero, pow-succ'}
use Rattle.std.specs.List.{ContainsAt as Has}
use Rattle.std.proofs.ByRecursion.{has_get_or}
use Rattle.std.proofs.lemmas.Bool.{both_ways, cases_eq}
use Rattle.ring.specs.Elem.{Elem, 𝟘}
use Rattle.ring.specs.System.{System, Lawful, Widths, pow, classes}
use Rattle.ring.specs.Class.{Even, SameClass, Full}
use Rattle.ring.specs.Theorems.{Apart}
use Rattle.ring.proofs.Classes.{mod_flip}
use Rattle.ring.proofs.Counting.{few}
use Rattle.ring.proofs.Statements.{full_by_number_stands}
use Rattle.rules.specs.Lists.{distinct, without}
use Rattle.rules.specs.Table.{Classed}
use Rattle.rules.proofs.Lists.{has_pushed, without_other, distinct_at, has_listed, listed_has}

-- digits that β does not divide, one for each class at most
pub record Digits (s : System) (w : ℕ) (ds : List Elem) : Type 0 where
  pub odd : (d : Elem) → Has ds d → ¬ (Even s d)
  pub one : (d e : Elem) → Has ds d → Has ds e → SameClass s w d e → d ≡ e

none_has : (d : Elem) → Has [] d → ⊥
none_has d m = both_ways false refl (has_listed [] d m)

pub no_digits : (s : System) (w : ℕ) → Digits s w []
no_digits s w = record { odd = λ d m. absurd (none_has d m); one = λ d e m. absurd (none_has d m) }

-- a digit more
pub pushed : (ds : List Elem) (d x : Elem) → Has (ds ++ d ∷ []) x → (d ≡ x) ⊎ Has ds x
pushed ds d x m = ⊎_elim inl (λ h. inr (listed_has ds x h)) (has_pushed ds d x (has_listed (ds ++ d ∷ []) x m))

pub digits_push : (s : System) (w : ℕ) (ds : List Elem) (d : Elem) → Digits s w ds → ¬ (Even s d) → ¬ (Classed s w (Has ds) d) → Digits s w (ds ++ d ∷ [])
digits_push s w ds d D odd free = record {
  odd = λ x m. ⊎_elim (λ e. subst (λ u. ¬ (Even s u)) e odd) (D.odd x) (pushed ds d x m);
  one = λ x y m n c. ⊎_elim
      (λ e. ⊎_elim (λ f. sym e ∙ f) (λ f. absurd (free (y, f, subst (λ u. SameClass s w u y) (sym e) c))) (pushed ds d y n))
      (λ e. ⊎_elim (λ f. absurd (free (x, e, mod_flip s (pow s s.β w) x d (subst (SameClass s w x) (sym f) c)))) (λ f. D.one x y e f c) (pushed ds d y n))
      (pushed ds d x m);
}

-- a digit less
pub kept : (ds : List Elem) (d x : Elem) → Has (without ds d) x → Has ds x
kept ds d x m = listed_has ds x (without_other ds d x (has_listed (without ds d) x m))

pub digits_without : (s : System) (w : ℕ) (ds : List Elem) (d : Elem) → Digits s w ds → Digits s w (without ds d)
digits_without s w ds d D = record {
  odd = λ x m. D.odd x (kept ds d x m);
  one = λ x y m n. D.one x y (kept ds d x m) (kept ds d y n);
}

power_some : (p j : ℕ) → 1 ≤ p → 1 ≤ p ^ j
power_some p zero h = omega (arith, pow-zero p)
power_some p (suc j) h = let k = mul-le-mul_left p (power_some p j h) in omega (arith, pow-succ' p j)

pub power_base : (a b j : ℕ) → a ≤ b → a ^ j ≤ b ^ j
power_base a b zero h = omega (arith, pow-zero a, pow-zero b)
power_base a b (suc j) h = let k = mul-le-mul h (power_base a b j h) in omega (arith, pow-succ' a j, pow-succ' b j)

pub power_more : (p i j : ℕ) → 1 ≤ p → i ≤ j → p ^ i ≤ p ^ j
power_more p zero j h l = let k = power_some p j h in omega (arith, pow-zero p)
power_more p (suc i) zero h l = absurd (omega arith)
power_more p (suc i) (suc j) h l = let k = mul-le-mul_left p (power_more p i j h (omega arith)) in omega (arith, pow-succ' p i, pow-succ' p j)

module _ (s : System) (g : Lawful s) (ds : List Elem) (once : distinct ds ≡ true) where
  apart : (w : ℕ) → Digits s w ds → Apart s w ds
  apart w D = record {
    odd = λ i l. D.odd (get_or ds i 𝟘) (has_get_or ds i 𝟘 l);
    apart = λ i j l m c. distinct_at ds i j once l m (D.one (get_or ds i 𝟘) (get_or ds j 𝟘) (has_get_or ds i 𝟘 (omega arith)) (has_get_or ds j 𝟘 m) c);
  }

  -- no more than there are classes
  pub at_most : (w : ℕ) → 1 ≤ w → Digits s w ds → length ds ≤ classes s.p w
  at_most zero h D = absurd (omega arith)
  at_most (suc v) h D =
      let a = apart (suc v) D in
      let l = few s g v (length ds) (λ i. get_or ds i 𝟘) a.odd a.apart in
      let e : (s.p - 1) * s.p ^ v ≡ classes s.p (suc v) = ap (λ i. (s.p - 1) * s.p ^ i) (omega arith) in
      omega arith

  -- and never more than the table has places for
  pub at_most_128 : (w widest : ℕ) → Widths s.p widest → 1 ≤ w → w ≤ widest → Digits s w ds → length ds ≤ 128
  at_most_128 w widest o h m D =
      let l = at_most w h D in
      let q = g.p_low in
      let k : s.p ^ (w - 1) ≤ s.p ^ (widest - 1) = power_more s.p (w - 1) (widest - 1) (omega arith) (omega arith) in
      let n : classes s.p w ≤ classes s.p widest = mul-le-mul_left (s.p - 1) k in
      let f = o.few in
      omega arith

  -- whether they are full is decided by their number
  pub full_since : (w : ℕ) → 1 ≤ w → Digits s w ds → ((Full s w (Has ds) → ⊥) → ⊥) → Full s w (Has ds)
  full_since w h D f =
      let r = full_by_number_stands s g w h ds (apart w D) in
      ⊎_elim r.0 (λ n. absurd (f (λ x. n (r.1 x)))) (cases_eq (length ds) (classes s.p w))
