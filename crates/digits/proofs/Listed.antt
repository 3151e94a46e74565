-- Digits of a list, by their places.
use Rattle.std.proofs.Common.{◌≡◌, Bool, true, false, Decides, ℕ, zero, suc, ◌<◌, ◌≤◌, List, [], ◌∷◌, length, get_or, option_copied, Bor, sym, refl, ◌∙◌, subst, arith}
use Rattle.std.specs.Bool.{MatchBool}
use Rattle.std.specs.Prelude.{Option, None, Some, MatchOption}
use Rattle.std.specs.List.{AllWithin, HoldsAt}
use mathlib.Core.Bool.{false≢true}
use Rattle.ring.specs.Elem.{Elem, 𝟘}
use Rattle.ring.specs.System.{System}
use Rattle.ring.specs.Class.{SameClass}
use Rattle.digits.specs.Stepping.{FirstOf, Unclassed}
use Rattle.digits.specs.Digits.{elem_of, elems}
use Rattle.digits.specs.declared.digit.Digit.{Digit}

pub length_elems : (ds : List Digit) → length (elems ds) ≡ length ds
length_elems [] = refl
length_elems (d ∷ ds) = let h = length_elems ds in omega arith

-- the digit at a place, whatever stands for one past the end
stands : (ds : List Digit) (k : ℕ) → k < length ds → (d : Digit) × (get_or (elems ds) k 𝟘 ≡ elem_of d) × ((e : Digit) → get_or ds k e ≡ d)
stands [] k l = absurd (omega arith)
stands (d ∷ ds) zero l = (d, refl, λ e. refl)
stands (d ∷ ds) (suc k) l = stands ds k (omega arith)

-- d stands at the place k
pub elem_at : (ds : List Digit) (d : Digit) (k : ℕ) → k < length ds → get_or ds k d ≡ d → get_or (elems ds) k 𝟘 ≡ elem_of d
elem_at ds d k l is = let s = stands ds k l in subst (λ e. get_or (elems ds) k 𝟘 ≡ elem_of e) (sym (s.2 d) ∙ is) s.1

-- what holds of digits' elements holds at their places
module _ (P : Elem → Type 0) (ds : List Digit) where
  pub at : (k : ℕ) → k < length ds → HoldsAt (λ d. P (elem_of d)) ds k → P (get_or (elems ds) k 𝟘)
  at k l h = let s = stands ds k l in subst P (sym s.1) (subst (λ d. P (elem_of d)) (s.2 s.0) (h s.0))

  pub within : (n : ℕ) → n ≤ length ds → AllWithin (λ d. P (elem_of d)) ds 0 n → (k : ℕ) → k < n → P (get_or (elems ds) k 𝟘)
  within n m h k l = at k (omega arith) (λ d. h k d (omega arith) l)

-- a search that answers whether all of them are so
pub decided : (P Q : Elem → Type 0) (ds : List Digit) (r : Bool) → ((e : Elem) → P e → Q e → ⊥) →
    MatchBool r (AllWithin (λ d. P (elem_of d)) ds 0 (length ds)) ((k : ℕ) × (k < length ds) × HoldsAt (λ d. Q (elem_of d)) ds k) →
    Decides r ((k : ℕ) → k < length (elems ds) → P (get_or (elems ds) k 𝟘))
decided P Q ds true apart h = (λ _ k l. within P ds (length ds) (omega arith) h k (omega (arith, length_elems ds)), λ _. refl)
decided P Q ds false apart (k, l, h) = (λ e. absurd (false≢true e), λ all. absurd (apart _ (all k (omega (arith, length_elems ds))) (at Q ds k l h)))

-- a search that answers the first of z's class
module _ (s : System) (w : ℕ) (z : Elem) (ds : List Digit) where
  pub first : (r : Option Digit) →
      MatchOption r (AllWithin (λ d. ¬ (SameClass s w z (elem_of d))) ds 0 (length ds)) (λ x. SameClass s w z (elem_of x) × (i : ℕ) × (i < length ds) × HoldsAt (λ y. y ≡ x) ds i × AllWithin (λ d. ¬ (SameClass s w z (elem_of d))) ds 0 i) →
      MatchOption r (Unclassed s w (elems ds) z) (λ d. FirstOf s w (elems ds) z (elem_of d))
  first None h = λ d m a. within (λ e. ¬ (SameClass s w z e)) ds (length ds) (omega arith) h m.0 (omega (arith, m.1, length_elems ds)) (subst (SameClass s w z) (sym (m.2 𝟘)) a)
  first (Some d) (a, i, l, is, none) = (i, omega (arith, l, length_elems ds), elem_at ds d i l (is d), a, within (λ e. ¬ (SameClass s w z e)) ds i (omega arith) none)

-- what holds of the digit that a reference leads to holds of its copy
pub of_copied : (o : Option (Bor Digit)) (r : Option Digit) (P : Type 0) (Q : Digit → Type 0) → r ≡ option_copied o → MatchOption o P (λ x. Q x.now) → MatchOption r P Q
of_copied None r P Q e h = subst (λ k. MatchOption k P Q) (sym e) h
of_copied (Some x) r P Q e h = subst (λ k. MatchOption k P Q) (sym e) h
