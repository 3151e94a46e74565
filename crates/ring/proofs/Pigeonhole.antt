-- The pigeonhole principle: m numbers below N that all differ are at most N.
use Rattle.std.proofs.Common.{◌≡◌, ℕ, zero, suc, ◌<◌, ◌≤◌, ◌≢◌, ◌⊎◌, sym, refl, ap, ◌∙◌, inl, inr, ⊎_elim, arith}
use native.Mathlib.Decide.{dec_lt, ℕ_discrete}

pub below : (i m : ℕ) → i < suc m → (i < m) ⊎ (i ≡ m)
below i m h = by (dec_lt i m)
  where
    by : Dec (i < m) → (i < m) ⊎ (i ≡ m)
    by (yes k) = inl k
    by (no k) = inr (omega arith)

-- x stands among f 0 .. f (m − 1), or not
pub find : (f : ℕ → ℕ) (x m : ℕ) → ((i : ℕ) × (i < m) × (f i ≡ x)) ⊎ ((i : ℕ) → i < m → f i ≢ x)
find f x zero = inr (λ i h. absurd (omega arith))
find f x (suc m) = by (find f x m) (ℕ_discrete (f m) x)
  where
    by : ((i : ℕ) × (i < m) × (f i ≡ x)) ⊎ ((i : ℕ) → i < m → f i ≢ x) → Dec (f m ≡ x) → ((i : ℕ) × (i < suc m) × (f i ≡ x)) ⊎ ((i : ℕ) → i < suc m → f i ≢ x)
    by (inl r) d = inl (r.0, omega (arith, r.1), r.2)
    by (inr n) (yes e) = inl (m, omega arith, e)
    by (inr n) (no o) = inr (λ i h e. ⊎_elim (λ k. n i k e) (λ k. o (ap f (sym k) ∙ e)) (below i m h))

skipped : (i k : ℕ) → Dec (k < i) → ℕ
skipped i k (yes h) = k
skipped i k (no h) = suc k

pub skip : ℕ → ℕ → ℕ
skip i k = skipped i k (dec_lt k i)

pub skip_is : (i k : ℕ) → ((k < i) × (skip i k ≡ k)) ⊎ ((i ≤ k) × (skip i k ≡ suc k))
unfolding skip skipped
skip_is i k = by (dec_lt k i)
  where
    by : (d : Dec (k < i)) → ((k < i) × (skipped i k d ≡ k)) ⊎ ((i ≤ k) × (skipped i k d ≡ suc k))
    by (yes h) = inl (h, refl)
    by (no h) = inr (omega arith, refl)

pub pigeonhole : (N m : ℕ) (f : ℕ → ℕ) → ((i : ℕ) → i < m → f i < N) → ((i j : ℕ) → i < j → j < m → f i ≢ f j) → m ≤ N
pigeonhole zero zero f b a = omega arith
pigeonhole zero (suc m) f b a = absurd (omega (arith, b 0 (omega arith)))
pigeonhole (suc N) zero f b a = omega arith
pigeonhole (suc N) (suc m) f b a = by (pigeonhole N) (find f N (suc m))
  where
    by : ((k : ℕ) (h : ℕ → ℕ) → ((i : ℕ) → i < k → h i < N) → ((i j : ℕ) → i < j → j < k → h i ≢ h j) → k ≤ N) →
        ((i : ℕ) × (i < suc m) × (f i ≡ N)) ⊎ ((i : ℕ) → i < suc m → f i ≢ N) → suc m ≤ suc N
    by ih (inr n) = let l = ih (suc m) f (λ i h. omega (arith, b i h, n i h)) a in omega arith
    by ih (inl r) =
        let p = r.0 in
        let l = ih m (λ k. f (skip p k))
        (λ i h. let c = skip_is p i in let q : skip p i < suc m = omega (arith, r.1) in
        let u : f (skip p i) ≢ N = λ e. ⊎_elim (λ o. a (skip p i) p (omega arith) r.1 (e ∙ sym r.2)) (λ o. a p (skip p i) (omega arith) q (r.2 ∙ sym e)) c in
        omega (arith, b (skip p i) q))
        (λ i j h k. let c = skip_is p i in let d = skip_is p j in a (skip p i) (skip p j) (omega arith) (omega (arith, r.1))) in
        omega arith
