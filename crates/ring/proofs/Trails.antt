-- Trails: where they come to 0, where they return, lead and period; and the pigeonhole.
use Rattle.std.proofs.Common.{◌≡◌, ℕ, zero, suc, ◌+◌, ◌-◌, ◌*◌, ◌<◌, ◌≤◌, ◌≢◌, ◌↔◌, List, [], ◌∷◌, sym, refl, ap, ◌∙◌, subst, inl, add-zero, add-suc, mul-le-mul_left, arith}
use native.Mathlib.Decide.{dec_lt}
use Rattle.ring.specs.Elem.{Elem, 𝟘}
use Rattle.ring.specs.System.{System, Lawful}
use Rattle.ring.specs.Class.{Full}
use Rattle.ring.specs.Expansion.{weighted, Expands, HasExpansion}
use Rattle.ring.specs.Trail.{Step, Trail, LeadPeriod}
use Rattle.ring.proofs.Elements.{mul_zero}
use Rattle.ring.proofs.Expansions.{nil, tail}
use Rattle.ring.proofs.Steps.{expands_step, step_one}
use Rattle.ring.proofs.Bound.{has_step}

module _ (s : System) (g : Lawful s) (v : ℕ) (S : Elem → Type 0) (full : Full s (suc v) S) where
  pub reach : (k : ℕ) (f : ℕ → Elem) → Trail s (suc v) S f → f k ≡ 𝟘 → HasExpansion s (suc v) S (f 0)
  reach zero f t e = subst (HasExpansion s (suc v) S) (sym e) ([], nil s g (suc v) S)
  reach (suc k) f t e = has_step s g v S full.odd (f 0) (t 0).0 (f 1) (t 0).1 (reach k (λ j. f (suc j)) (λ j. t (suc j)) e)

  pub arrive : (es : List Elem) (f : ℕ → Elem) → Trail s (suc v) S f → Expands s (suc v) S (f 0) es → (k : ℕ) × (f k ≡ 𝟘)
  arrive [] f t x = (0, sym x.total)
  arrive (e ∷ es) f t x =
      let q = (step_one s g v S full.odd full.one (f 0) e (t 0).0 (weighted s es) (f 1) (expands_step s g v S full.odd (f 0) e es x) (t 0).1).1 in
      let r = arrive es (λ j. f (suc j)) (λ j. t (suc j)) (subst (λ u. Expands s (suc v) S u es) q (tail s g (suc v) S (f 0) e es x)) in
      (suc r.0, r.1)

  pub expansion_iff : (f : ℕ → Elem) → Trail s (suc v) S f → HasExpansion s (suc v) S (f 0) ↔ ((k : ℕ) × (f k ≡ 𝟘))
  expansion_iff f t = (λ h. arrive h.0 f t h.1, λ h. reach h.0 f t h.1)

  -- the next element hangs on the element alone
  pub steady : (f : ℕ → Elem) → Trail s (suc v) S f → (i j : ℕ) → f i ≡ f j → f (suc i) ≡ f (suc j)
  steady f t i j e = (step_one s g v S full.odd full.one (f j) (t i).0 (t j).0 (f (suc i)) (f (suc j)) (subst (λ u. Step s (suc v) S u (t i).0 (f (suc i))) e (t i).1) (t j).1).1

  -- an element has one trail
  pub same_trail : (f h : ℕ → Elem) → Trail s (suc v) S f → Trail s (suc v) S h → f 0 ≡ h 0 → (k : ℕ) → f k ≡ h k
  same_trail f h t u e zero = e
  same_trail f h t u e (suc k) =
      (step_one s g v S full.odd full.one (h k) (t k).0 (u k).0 (f (suc k)) (h (suc k)) (subst (λ y. Step s (suc v) S y (t k).0 (f (suc k))) (same_trail f h t u e k) (t k).1) (u k).1).1

  pub zero_step : Step s (suc v) S 𝟘 𝟘 𝟘
  zero_step = let e = mul_zero s s.β in inl ((𝟘, e), refl, e)

  pub zero_stays : (f : ℕ → Elem) → Trail s (suc v) S f → (k m : ℕ) → f k ≡ 𝟘 → f (k + m) ≡ 𝟘
  zero_stays f t k zero e = ap f (omega arith) ∙ e
  zero_stays f t k (suc m) e =
      ap f (omega arith) ∙ (step_one s g v S full.odd full.one 𝟘 (t (k + m)).0 𝟘 (f (suc (k + m))) 𝟘
      (subst (λ u. Step s (suc v) S u (t (k + m)).0 (f (suc (k + m)))) (zero_stays f t k m e) (t (k + m)).1) zero_step).1

module _ (f : ℕ → Elem) (steady : (i j : ℕ) → f i ≡ f j → f (suc i) ≡ f (suc j)) where
  pub shift : (i j k : ℕ) → f i ≡ f j → f (i + k) ≡ f (j + k)
  shift i j zero e = rw (add-zero, add-zero) e
  shift i j (suc k) e = rw (add-suc, add-suc) (steady (i + k) (j + k) (shift i j k e))

  pub round : (i p n : ℕ) → f (i + p) ≡ f i → f (i + n * p) ≡ f i
  round i p zero e = ap f (omega arith)
  round i p (suc n) e = ap f (omega arith) ∙ shift (i + p) i (n * p) e ∙ round i p n e

  -- what comes after the first return is among what stands between i and j
  folds : (i j m : ℕ) → i < j → f j ≡ f i → (m' : ℕ) × (i ≤ m') × (m' < j) × (f (i + m) ≡ f m')
  folds i j zero l e = (i, omega arith, l, ap f (omega arith))
  folds i j (suc m) l e = by (folds i j m l e) (dec_lt (suc (folds i j m l e).0) j)
    where
      by : (r : (m' : ℕ) × (i ≤ m') × (m' < j) × (f (i + m) ≡ f m')) → Dec (suc r.0 < j) → (m' : ℕ) × (i ≤ m') × (m' < j) × (f (i + suc m) ≡ f m')
      by r (yes k) = (suc r.0, omega arith, k, ap f (omega arith) ∙ steady (i + m) r.0 r.3)
      by r (no k) = (i, omega arith, l, ap f (omega arith) ∙ steady (i + m) r.0 r.3 ∙ ap f (omega arith) ∙ e)

  pub lead_period : (i j : ℕ) → i < j → f j ≡ f i → ((a b : ℕ) → a < b → b < j → f a ≢ f b) → LeadPeriod f i (j - i)
  lead_period i j l e apart = record {
    some = omega arith;
    back = ap f (omega arith) ∙ e;
    first = λ a h r. by a h r.0 r.1 r.2 (dec_lt (a + r.0) j);
    least = λ k h m q. apart i (i + k) (omega arith) (omega arith) (sym q);
  }
    where
      by : (a : ℕ) → a < i → (k : ℕ) → 0 < k → f (a + k) ≡ f a → Dec (a + k < j) → ⊥
      by a h k o q (yes m) = apart a (a + k) (omega arith) m (sym q)
      by a h k o q (no m) =
          let r = folds i j (a + k - i) l e in
          apart a r.0 (let x = r.1 in omega arith) r.2 (sym q ∙ ap f (omega arith) ∙ r.3)

  -- a trail that returns elsewhere than at 0 never comes to 0
  pub never : (stays : (k m : ℕ) → f k ≡ 𝟘 → f (k + m) ≡ 𝟘) (i p : ℕ) → 0 < p → f (i + p) ≡ f i → f i ≢ 𝟘 → (k : ℕ) → f k ≢ 𝟘
  never stays i p o e n k z =
      let m = mul-le-mul_left k o in
      n (sym (round i p k e) ∙ ap f (omega arith) ∙ stays k (i + k * p - k) z)
