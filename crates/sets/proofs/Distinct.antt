-- Digits of different classes, and full sets.
use Rattle.std.proofs.Common.{◌≡◌, ℕ, zero, suc, ◌+◌, ◌-◌, ◌*◌, ◌^◌, ◌<◌, ◌≤◌, List, [], ◌∷◌, ◌++◌, length, get_or, sym, ◌∙◌, subst, ⊎_elim, le_trans, mul-le-mul_left, arith}
use native.Mathlib.Nat.{pow-le-pow_right}
use Rattle.std.specs.List.{ContainsAt as Has, remove}
use Rattle.std.proofs.lemmas.List.{get_or_append_left, get_or_push, length_push}
use Rattle.std.proofs.lemmas.List.Edits.{length-remove, get_or-remove_below, get_or-remove_above}
use Rattle.std.proofs.ByRecursion.{has_get_or}
use Rattle.std.proofs.lemmas.Bool.{cases_lt}
use Rattle.ring.specs.Elem.{Elem, 𝟘}
use Rattle.ring.specs.System.{System, Lawful, pow, classes}
use Rattle.ring.specs.Class.{Even, SameClass, Full, Classed}
use Rattle.ring.specs.Theorems.{Apart}
use Rattle.ring.proofs.Elements.{mul_zero, sub_self}
use Rattle.ring.proofs.Classes.{mod_flip}
use Rattle.ring.proofs.Counting.{few}
use Rattle.sets.specs.Lists.{Different, StaysApart}
use Rattle.sets.proofs.Pairs.{any2_push, any2_removed}

module _ (s : System) (w : ℕ) where
  pub own_class : (z : Elem) → SameClass s w z z
  own_class z = (𝟘, mul_zero s (pow s s.β w) ∙ sub_self 𝟘 z)

  pub flip_class : (a b : Elem) → SameClass s w a b → SameClass s w b a
  flip_class = mod_flip s (pow s s.β w)

  -- a full set in which none stands twice
  pub full_apart : (ds : List Elem) → Different ds → Full s w (Has ds) → Apart s w ds
  full_apart ds d f = record {
    odd = λ k l. f.odd (get_or ds k 𝟘) (has_get_or ds k 𝟘 l);
    apart = λ i j l m c. d i j l m (f.one (get_or ds i 𝟘) (get_or ds j 𝟘) (has_get_or ds i 𝟘 (omega arith)) (has_get_or ds j 𝟘 m) c);
  }

  module _ (ds : List Elem) (a : Apart s w ds) where
    apart_more : (z : Elem) → ¬ (Even s z) → ¬ (Classed s w (Has ds) z) → Apart s w (ds ++ z ∷ [])
    apart_more z o n = record {
      odd = λ k l. let m = length_push ds z in ⊎_elim
          (λ b. subst (λ e. ¬ (Even s e)) (sym (get_or_append_left ds (z ∷ []) 𝟘 k b)) (a.odd k b))
          (λ b. subst (λ e. ¬ (Even s e)) (sym (get_or_push ds z 𝟘 k (omega arith))) o)
          (cases_lt k (length ds));
      apart = any2_push (λ x y. ¬ (SameClass s w x y)) ds z a.apart (λ k l c. n (get_or ds k 𝟘, has_get_or ds k 𝟘 l, flip_class (get_or ds k 𝟘) z c));
    }

    apart_less : (k : ℕ) → k < length ds → Apart s w (remove ds k)
    apart_less k l = record {
      odd = λ i h. let m = length-remove ds k l in ⊎_elim
          (λ b. subst (λ e. ¬ (Even s e)) (sym (get_or-remove_below ds k 𝟘 i b l)) (a.odd i (omega arith)))
          (λ b. subst (λ e. ¬ (Even s e)) (sym (get_or-remove_above ds k 𝟘 i b l)) (a.odd (i + 1) (omega arith)))
          (cases_lt i k);
      apart = any2_removed (λ x y. ¬ (SameClass s w x y)) ds k l a.apart;
    }

-- digits of different classes number at most the classes
at_most_classes : (s : System) → Lawful s → (w : ℕ) → 1 ≤ w → (ds : List Elem) → Apart s w ds → length ds ≤ classes s.p w
at_most_classes s g zero h = absurd (omega arith)
at_most_classes s g (suc v) h = λ ds a. let e : suc v - 1 ≡ v = omega arith in subst (λ k. length ds ≤ (s.p - 1) * s.p ^ k) (sym e) (few s g v (length ds) (λ k. get_or ds k 𝟘) a.odd a.apart)

pub stays_apart : StaysApart
stays_apart s g w h ds a = record {
  more = apart_more s w ds a;
  less = apart_less s w ds a;
  room = λ widest c i z o n.
      let l = at_most_classes s g w h (ds ++ z ∷ []) (apart_more s w ds a z o n) in
      let k = mul-le-mul_left (s.p - 1) (pow-le-pow_right {n = s.p} (omega (arith, g.p_low)) {i = w - 1} {j = widest - 1} (omega arith)) in
      let m = length_push ds z in
      omega (arith, le_trans (le_trans l k) c.few);
}
