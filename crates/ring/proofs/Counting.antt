-- The classes at width w that β does not divide: there are (p − 1)·p^(w − 1), and so many digits of different classes are a full set.
use Rattle.std.proofs.Common.{◌≡◌, ℕ, zero, suc, ◌-◌, ◌*◌, ◌^◌, ◌<◌, ◌≤◌, ◌≢◌, ◌⊎◌, ◌↔◌, List, [], ◌∷◌, length, get_or, pos, sym, refl, ap, ◌∙◌, subst, ap₂, subst₂, inl, inr, arith}
use native.Mathlib.Nat.{pow-zero}
use native.Mathlib.Decide.{dec_lt}
use Rattle.ring.specs.Elem.{Elem, sub, 𝟘}
use Rattle.ring.specs.System.{System, Lawful, mul, pow}
use Rattle.std.specs.List.{ContainsAt as Has}
use Rattle.std.proofs.ByRecursion.{has_get_or}
use Rattle.ring.specs.Theorems.{Apart}
use Rattle.ring.specs.Class.{SameClass, Full, Even}
use Rattle.ring.proofs.Integers.{lin}
use Rattle.ring.proofs.Elements.{same, mul_sub, sub_zero, sub_sub_self}
use Rattle.ring.proofs.Norms.{size_is, size_pow}
use Rattle.ring.proofs.Division.{divides?}
use Rattle.ring.proofs.Expansions.{base}
use Rattle.ring.proofs.Bound.{power}
use Rattle.ring.proofs.Pigeonhole.{skip, skip_is}
use Rattle.ring.proofs.Classes.{Reps, Mod, mod_flip, mod_chain, joint, joint_reps, classes, at_most, seek}

unskip : (i k N : ℕ) → k ≢ i → k < suc N → i < suc N → (j : ℕ) × (j < N) × (skip i j ≡ k)
unskip i k N n l m = by (dec_lt k i)
  where
    by : Dec (k < i) → (j : ℕ) × (j < N) × (skip i j ≡ k)
    by (yes h) = (k, omega arith, (let c = skip_is i k in omega arith))
    by (no h) = (k - 1, omega arith, (let c = skip_is i (k - 1) in omega arith))

power_pos : (p k : ℕ) → 2 ≤ p → 1 ≤ p ^ k
power_pos p zero h = omega (arith, pow-zero p)
power_pos p (suc k) h = let e = power p k h in omega arith

module _ (s : System) (g : Lawful s) (v : ℕ) where
  abbrev pub Odd : Elem → Type 0
  Odd z = ¬ (Even s z)

  β_classes : (r : ℕ → Elem) × Reps (λ _. Unit {0}) (Mod s s.β) s.p r
  β_classes = classes s s.β s.p (let h = g.p_low in omega arith) g.p_is

  keeps : (z y : Elem) → Mod s s.β z y → Odd y → Odd z
  keeps z y d n e = n (sub e.0 d.0, mul_sub s s.β e.0 d.0 ∙ ap₂ sub e.1 d.1 ∙ sub_sub_self z y)

  odd_β : (r : ℕ → Elem) × Reps Odd (Mod s s.β) (s.p - 1) r
  odd_β =
      let h = β_classes.1 in
      let r = β_classes.0 in
      let o = h.some 𝟘 tt in
      let zero_of : (z : Elem) → Even s z → Mod s s.β z (r o.0) = λ z d. mod_chain s s.β z 𝟘 (r o.0) (d.0, d.1 ∙ sym (sub_zero z)) o.2 in (
        (λ k. r (skip o.0 k)),
        record {
          within = λ k l d. (let c = skip_is o.0 k in let lo = g.p_low in let e = h.one (skip o.0 k) o.0 (omega arith) o.1 (zero_of (r (skip o.0 k)) d) in omega arith);
          some = λ z n. (let a = h.some z tt in let lo = g.p_low in
              let u = unskip o.0 a.0 (s.p - 1) (λ e. n (let d = mod_chain s s.β z (r a.0) 𝟘 a.2 (subst (λ i. Mod s s.β (r i) 𝟘) (sym e) (mod_flip s s.β 𝟘 (r o.0) o.2)) in (d.0, d.1 ∙ sub_zero z))) (let b = a.1 in omega arith) (let b = o.1 in omega arith) in
              (u.0, u.1, subst (λ i. Mod s s.β z (r i)) (sym u.2) a.2));
          one = λ i j a b d. (let c = skip_is o.0 i in let e = skip_is o.0 j in let lo = g.p_low in let f = h.one (skip o.0 i) (skip o.0 j) (omega arith) (omega arith) d in omega arith);
        },
      )

  pub odd_classes : (r : ℕ → Elem) × Reps Odd (Mod s (pow s s.β (suc v))) ((s.p - 1) * s.p ^ v) r
  odd_classes =
      let o = odd_β in
      let c = classes s (pow s s.β v) (s.p ^ v) (power_pos s.p v g.p_low) (size_is s g (pow s s.β v) ∙ ap pos (size_pow s g v)) in (
        joint s Odd s.β (pow s s.β v) (base s g) keeps (s.p - 1) o.0 o.1 (s.p ^ v) c.0 c.1 (power_pos s.p v g.p_low),
        joint_reps s Odd s.β (pow s s.β v) (base s g) keeps (s.p - 1) o.0 o.1 (s.p ^ v) c.0 c.1 (power_pos s.p v g.p_low),
      )

  R : Elem → Elem → Type 0
  R = Mod s (pow s s.β (suc v))

  R? : (a b : Elem) → Dec (R a b)
  unfolding R
  R? a b = divides? s (pow s s.β (suc v)) (s.p ^ suc v) (power_pos s.p (suc v) g.p_low) (size_is s g (pow s s.β (suc v)) ∙ ap pos (size_pow s g (suc v))) (sub a b)

  module _ (m : ℕ) (f : ℕ → Elem) (odd : (k : ℕ) → k < m → Odd (f k)) (apart : (i j : ℕ) → i < j → j < m → ¬ (Mod s (pow s s.β (suc v)) (f i) (f j))) where
    pub few : m ≤ (s.p - 1) * s.p ^ v
    few = at_most Odd (Mod s (pow s s.β (suc v))) (mod_flip s (pow s s.β (suc v))) (mod_chain s (pow s s.β (suc v))) ((s.p - 1) * s.p ^ v) odd_classes.0 odd_classes.1 m f odd apart

    front : Elem → ℕ → Elem
    front z zero = z
    front z (suc k) = f k

    pub full_from_count : m ≡ (s.p - 1) * s.p ^ v → (z : Elem) → Odd z → (k : ℕ) × (k < m) × Mod s (pow s s.β (suc v)) z (f k)
    unfolding R front
    full_from_count e z o = by (seek R R? (mod_flip s (pow s s.β (suc v))) own z f m)
      where
        own : (a : Elem) → R a a
        own a = (sub a a, mul_sub s (pow s s.β (suc v)) a a ∙ same (sub (mul s (pow s s.β (suc v)) a) (mul s (pow s s.β (suc v)) a)) (sub a a) (omega (arith, lin)) (omega (arith, lin)))

        by : ((j : ℕ) × (j < m) × R z (f j)) ⊎ ((j : ℕ) → j < m → ¬ (R z (f j))) → (k : ℕ) × (k < m) × R z (f k)
        by (inl h) = h
        by (inr n) = absurd (let l = at_most Odd R (mod_flip s (pow s s.β (suc v))) (mod_chain s (pow s s.β (suc v))) ((s.p - 1) * s.p ^ v) odd_classes.0 odd_classes.1 (suc m) (front z) odd' apart' in omega arith)
          where
            odd' : (k : ℕ) → k < suc m → Odd (front z k)
            odd' zero l = o
            odd' (suc k) l = odd k (omega arith)

            apart' : (i j : ℕ) → i < j → j < suc m → ¬ (R (front z i) (front z j))
            apart' zero zero a b = absurd (omega arith)
            apart' zero (suc j) a b = n j (omega arith)
            apart' (suc i) zero a b = absurd (omega arith)
            apart' (suc i) (suc j) a b = apart i j (omega arith) (omega arith)

    pub count_from_full : ((z : Elem) → Odd z → (k : ℕ) × (k < m) × Mod s (pow s s.β (suc v)) z (f k)) → m ≡ (s.p - 1) * s.p ^ v
    count_from_full some =
        let h = odd_classes in
        let l = at_most Odd (Mod s (pow s s.β (suc v))) (mod_flip s (pow s s.β (suc v))) (mod_chain s (pow s s.β (suc v))) m f
        (record { within = odd; some = some; one = λ i j a b d. by i j a b d (dec_lt i j) (dec_lt j i) }) ((s.p - 1) * s.p ^ v) h.0 h.1.within (λ i j a b d. let e = h.1.one i j (omega arith) b d in omega arith) in
        let k = few in
        omega arith
      where
        by : (i j : ℕ) → i < m → j < m → Mod s (pow s s.β (suc v)) (f i) (f j) → Dec (i < j) → Dec (j < i) → i ≡ j
        by i j a b d (yes l) _ = absurd (apart i j l b d)
        by i j a b d (no l) (yes k) = absurd (apart j i k a (mod_flip s (pow s s.β (suc v)) (f i) (f j) d))
        by i j a b d (no l) (no k) = omega arith

-- ---- by lists
-- r 0, r 1, .. r (n − 1)
abbrev tabulate : ℕ → (ℕ → Elem) → List Elem
tabulate zero r = []
tabulate (suc n) r = r 0 ∷ tabulate n (λ k. r (suc k))

tabulate_length : (n : ℕ) (r : ℕ → Elem) → length (tabulate n r) ≡ n
tabulate_length zero r = refl
tabulate_length (suc n) r = let h = tabulate_length n (λ k. r (suc k)) in omega arith

tabulate_at : (n : ℕ) (r : ℕ → Elem) (k : ℕ) → k < n → get_or (tabulate n r) k 𝟘 ≡ r k
tabulate_at zero r k l = absurd (omega arith)
tabulate_at (suc n) r zero l = refl
tabulate_at (suc n) r (suc k) l = tabulate_at n (λ j. r (suc j)) k (omega arith)

module _ (s : System) (g : Lawful s) (v : ℕ) where
  -- places of one class are one place
  one_place : (ds : List Elem) → Apart s (suc v) ds → (i j : ℕ) → i < length ds → j < length ds → SameClass s (suc v) (get_or ds i 𝟘) (get_or ds j 𝟘) → Dec (i < j) → Dec (j < i) → i ≡ j
  one_place ds a i j l m c (yes k) o = absurd (a.apart i j k m c)
  one_place ds a i j l m c (no k) (yes o) = absurd (a.apart j i o l (mod_flip s (pow s s.β (suc v)) (get_or ds i 𝟘) (get_or ds j 𝟘) c))
  one_place ds a i j l m c (no k) (no o) = omega arith

  full_of : (ds : List Elem) → Apart s (suc v) ds → ((z : Elem) → Odd s g v z → (k : ℕ) × (k < length ds) × SameClass s (suc v) z (get_or ds k 𝟘)) → Full s (suc v) (Has ds)
  full_of ds a some = record {
    odd = λ d m. subst (Odd s g v) (m.2 𝟘) (a.odd m.0 m.1);
    some = λ z o. let r = some z o in (get_or ds r.0 𝟘, has_get_or ds r.0 𝟘 r.1, r.2);
    one = λ d e m n c. sym (m.2 𝟘) ∙ ap (λ k. get_or ds k 𝟘)
        (one_place ds a m.0 n.0 m.1 n.1 (subst (λ u. SameClass s (suc v) u (get_or ds n.0 𝟘)) (sym (m.2 𝟘)) (subst (SameClass s (suc v) d) (sym (n.2 𝟘)) c)) (dec_lt m.0 n.0) (dec_lt n.0 m.0)) ∙ n.2 𝟘;
  }

  pub full_by_number : (ds : List Elem) → Apart s (suc v) ds → (length ds ≡ (s.p - 1) * s.p ^ v) ↔ Full s (suc v) (Has ds)
  full_by_number ds a = (
    λ e. full_of ds a (full_from_count s g v (length ds) (λ k. get_or ds k 𝟘) a.odd a.apart e),
    λ f. count_from_full s g v (length ds) (λ k. get_or ds k 𝟘) a.odd a.apart (λ z o. let r = f.some z o in (r.1.0, r.1.1, subst (SameClass s (suc v) z) (sym (r.1.2 𝟘)) r.2)),
  )

  pub classes_number : (rs : List Elem) × Apart s (suc v) rs × Full s (suc v) (Has rs) × (length rs ≡ (s.p - 1) * s.p ^ v)
  classes_number =
      let N = (s.p - 1) * s.p ^ v in
      let h = (odd_classes s g v).1 in
      let r = (odd_classes s g v).0 in
      let n = tabulate_length N r in
      let a : Apart s (suc v) (tabulate N r) = record {
        odd = λ k l. subst (Odd s g v) (sym (tabulate_at N r k (omega arith))) (h.within k (omega arith));
        apart = λ i j l m c. (let e = h.one i j (omega arith) (omega arith) (subst₂ (SameClass s (suc v)) (tabulate_at N r i (omega arith)) (tabulate_at N r j (omega arith)) c) in omega arith);
      } in
      (tabulate N r, a, (full_by_number (tabulate N r) a).0 n, n)
