-- What a set holds, by places, and what it holds after a change.
use Rattle.std.specs.Prelude.{Option, None, Some, MatchOption}
use Rattle.std.specs.Option.{is_some}
use Rattle.std.proofs.lemmas.Option.{none-some}
use mathlib.Core.Bool.{false≢true}
use Rattle.std.proofs.Common.{◌≡◌, Bool, true, false, Decides, ℕ, zero, suc, ◌+◌, ◌-◌, ◌<◌, ◌≤◌, List, [], ◌∷◌, ◌++◌, length, get_or, take, drop, set, ℤ, sym, ap, ap₂, ◌∙◌, subst, arith, w64, SFits, to_z, of_z, length-drop, add-one}
use Rattle.std.specs.List.{AllWithin, ContainsAt as Has, HoldsAt, copy_within, remove}
use Rattle.std.proofs.lemmas.List.{length-map, length-take-le, get_or_default, get_or-take, map-append, take-map, take-take, drop-map, take_more_set}
use Rattle.std.proofs.lemmas.List.Edits.{take-paste}
use Rattle.std.proofs.lemmas.Slice.{between_is}
use Rattle.std.proofs.ByRecursion.{has_get_or}
use Rattle.std.proofs.lemmas.Int.{to_z-of_z}
use Rattle.ring.specs.Elem.{Elem, 𝟘}
use Rattle.ring.proofs.Elements.{same}
use Rattle.ring.specs.Class.{InRange}
use Rattle.digits.specs.Digits.{elem_of, elems}
use Rattle.digits.specs.declared.digit.Digit.{Digit}
use Rattle.digits.proofs.Listed.{length_elems, at, within}
use Rattle.sets.specs.declared.table.DigitSet.{DigitSet}
use Rattle.sets.specs.Lists.{Different}
use Rattle.sets.specs.Held.{held}
use Rattle.sets.proofs.Pairs.{any2_push, any2_removed}

-- the first n places of a table
pub numbered : (t : List Digit) (n : ℕ) → n ≤ length t → length (elems (take n t)) ≡ n
numbered t n l = length-map (take n t) elem_of ∙ length-take-le n t l

pub front : (t : List Digit) (n k : ℕ) → k < n → get_or (elems (take n t)) k 𝟘 ≡ get_or (elems t) k 𝟘
front t n k l = ap (λ ds. get_or ds k 𝟘) (sym (take-map elem_of n t)) ∙ get_or-take n (elems t) k 𝟘 l

pub front_has : (t : List Digit) (n k : ℕ) → k < n → n ≤ length t → Has (elems (take n t)) (get_or (elems t) k 𝟘)
front_has t n k l h = subst (Has (elems (take n t))) (front t n k l) (has_get_or (elems (take n t)) k 𝟘 (omega (arith, numbered t n h)))

pub number : (s : DigitSet) → length (held s) ≡ s.count
number s = numbered s.table s.count (omega (arith, s.whole, s.most))

-- digits are in range
in_range : (ds : List Digit) (k : ℕ) → k < length (elems ds) → InRange (get_or (elems ds) k 𝟘)
in_range [] k l = absurd (omega arith)
in_range (d ∷ ds) zero l = record { in_x = d.ranged.0; in_y = d.ranged.1 }
in_range (d ∷ ds) (suc k) l = in_range ds k (omega arith)

pub held_ranged : (s : DigitSet) (z : Elem) → Has (held s) z → InRange z
held_ranged s z h = subst InRange (h.2 𝟘) (in_range (take s.count s.table) h.0 h.1)

pub different_push : (ds : List Elem) (z : Elem) → Different ds → (Has ds z → ⊥) → Different (ds ++ z ∷ [])
different_push ds z h f = any2_push (λ a b. a ≡ b → ⊥) ds z h (λ k l e. f (subst (Has ds) e (has_get_or ds k 𝟘 l)))

pub different_removed : (ds : List Elem) (k : ℕ) → k < length ds → Different ds → Different (remove ds k)
different_removed = any2_removed (λ a b. a ≡ b → ⊥)

-- one more: t is the table with d at the first free place
pub pushed : (s : DigitSet) (t : List Digit) (d : Digit) → s.count < 128 → t ≡ set s.table s.count d → elems (take (s.count + 1) t) ≡ held s ++ elem_of d ∷ []
pushed s t d l e = ap (λ x. elems (take (s.count + 1) x)) e ∙ ap elems (take_more_set s.table s.count d (omega (arith, s.whole))) ∙ map-append elem_of (take s.count s.table) (d ∷ [])

-- the elements of digits with one taken out
less : (ds : List Digit) (k : ℕ) → elems (remove ds k) ≡ remove (elems ds) k
less ds k = map-append elem_of (take k ds) (drop (suc k) ds) ∙ ap₂ (λ (a b : List Elem). a ++ b) (sym (take-map elem_of k ds)) (sym (drop-map elem_of (suc k) ds))

-- one less: t is the table with the places behind k moved down
pub removed : (s : DigitSet) (t : List Digit) (k : ℕ) → k < s.count → t ≡ copy_within s.table (k + 1) s.count k → elems (take (s.count - 1) t) ≡ remove (held s) k
removed s t k l e =
    let n = s.count in
    let ds = take n s.table in
    let h : n ≤ length s.table = omega (arith, s.whole, s.most) in
    let low : n - 1 ≡ k + (n - (k + 1)) = omega arith in
    let left : take (n - 1) t ≡ remove ds k =
    ap₂ (λ (m : ℕ) (x : List Digit). take m x) low e
    ∙ take-paste s.table k (drop (k + 1) s.table) (n - (k + 1)) (omega arith) (omega (arith, length-drop (k + 1) s.table))
    ∙ ap₂ (λ (a b : List Digit). a ++ b) (sym (take-take k n s.table (omega arith))) (between_is s.table (k + 1) n ∙ ap (λ (j : ℕ). drop j ds) (add-one k)) in
    ap elems left ∙ less ds k

-- the place of z, or that it is not held
pub placed : (z : Elem) (ds : List Digit) (r : Option ℕ) →
    MatchOption r (AllWithin (λ d. elem_of d ≡ z → ⊥) ds 0 (length ds)) (λ i. (i < length ds) × HoldsAt (λ d. elem_of d ≡ z) ds i × AllWithin (λ d. elem_of d ≡ z → ⊥) ds 0 i) →
    MatchOption r (Has (elems ds) z → ⊥) (λ i. (i < length (elems ds)) × HoldsAt (λ e. e ≡ z) (elems ds) i)
placed z ds None h = λ m. within (λ e. e ≡ z → ⊥) ds (length ds) (omega arith) h m.0 (omega (arith, m.1, length_elems ds)) (m.2 𝟘)
placed z ds (Some i) (l, h, n) = let m : i < length (elems ds) = omega (arith, l, length_elems ds) in (m, λ d. get_or_default (elems ds) i d 𝟘 m ∙ at (λ e. e ≡ z) ds i l h)

-- an element as it is passed on
pub passed_on : (x y : ℤ) → SFits w64 x → SFits w64 y → ◌≡◌ {A = Elem} (record { x = to_z w64 (of_z w64 x); y = to_z w64 (of_z w64 y) }) (record { x = x; y = y })
passed_on x y f g = same (record { x = to_z w64 (of_z w64 x); y = to_z w64 (of_z w64 y) }) (record { x = x; y = y }) (to_z-of_z w64 x f) (to_z-of_z w64 y g)

-- what is made, or not, of the coordinates x and y
module _ (x y : ℤ) (f : SFits w64 x) (g : SFits w64 y) where
  pub not_made : (o : Option Digit) → MatchOption o (InRange (record { x = to_z w64 (of_z w64 x); y = to_z w64 (of_z w64 y) }) → ⊥) (λ d. elem_of d ≡ record { x = to_z w64 (of_z w64 x); y = to_z w64 (of_z w64 y) }) → o ≡ None → ¬ (InRange (record { x = x; y = y }))
  not_made None h e r = h (subst InRange (sym (passed_on x y f g)) r)
  not_made (Some d) h e r = absurd (none-some d (sym e))

  pub made : (o : Option Digit) → MatchOption o (InRange (record { x = to_z w64 (of_z w64 x); y = to_z w64 (of_z w64 y) }) → ⊥) (λ d. elem_of d ≡ record { x = to_z w64 (of_z w64 x); y = to_z w64 (of_z w64 y) }) → (d : Digit) → o ≡ Some d → elem_of d ≡ record { x = x; y = y }
  made None h d e = absurd (none-some d e)
  made (Some a) h d e = let q : a ≡ d = cc in subst (λ b. elem_of b ≡ record { x = x; y = y }) q (h ∙ passed_on x y f g)

-- whether something was found, where what was found shows P and its absence refutes P
pub found : {X : Type 0} {P N : Type 0} {S : X → Type 0} (o : Option X) (r : Bool) → r ≡ is_some o → (N → P → ⊥) → ((x : X) → S x → P) → MatchOption o N S → Decides r P
found None r e n s h = (λ t. absurd (false≢true (sym e ∙ t)), λ p. absurd (n h p))
found (Some x) r e n s h = (λ _. s x h, λ _. e)

module _ {X : Type 0} (N : Type 0) (S : X → Type 0) where
  pub some_found : (o : Option X) → is_some o ≡ true → MatchOption o N S → (x : X) × S x
  some_found None e h = absurd (false≢true e)
  some_found (Some x) e h = (x, h)

  pub none_found : (o : Option X) → is_some o ≡ false → MatchOption o N S → N
  none_found None e h = h
  none_found (Some x) e h = absurd (false≢true (sym e))
