-- A trail inside a finite box returns; and it has one lead and one period.
use Rattle.std.proofs.Common.{◌≡◌, ℕ, zero, suc, ◌+◌, ◌-◌, ◌*◌, ◌^◌, ◌<◌, ◌≤◌, ◌≢◌, ◌⊎◌, sym, ap, ◌∙◌, subst, inl, inr, ⊎_elim, arith}
use native.Mathlib.Decide.{dec_lt}
use Rattle.ring.specs.Elem.{Elem}
use Rattle.ring.specs.System.{System, Lawful, size}
use Rattle.ring.specs.Class.{InRange, Full}
use Rattle.ring.specs.Trail.{Trail, LeadPeriod}
use Rattle.ring.proofs.Pigeonhole.{pigeonhole, below, find}
use Rattle.ring.proofs.Trails.{steady, lead_period}
use Rattle.ring.proofs.Magnitudes.{step_is, keeps, digit_size}
use Rattle.ring.proofs.Boxes.{code, In, code_high, code_one, in_box}

-- the first m numbers differ
abbrev Apart : (ℕ → ℕ) → ℕ → Type 0
Apart h m = (a b : ℕ) → a < b → b < m → h a ≢ h b

-- the first number that comes again, or none below m
first : (h : ℕ → ℕ) (m : ℕ) → ((i j : ℕ) × (i < j) × (j < m) × (h j ≡ h i) × Apart h j) ⊎ Apart h m
first h zero = inr (λ a b l k. absurd (omega arith))
first h (suc m) = by (first h m) (find h (h m) m)
  where
    by : ((i j : ℕ) × (i < j) × (j < m) × (h j ≡ h i) × Apart h j) ⊎ Apart h m → ((i : ℕ) × (i < m) × (h i ≡ h m)) ⊎ ((i : ℕ) → i < m → h i ≢ h m) → ((i j : ℕ) × (i < j) × (j < suc m) × (h j ≡ h i) × Apart h j) ⊎ Apart h (suc m)
    by (inl r) d = inl (r.0, r.1, r.2, omega (arith, r.3), r.4, r.5)
    by (inr n) (inl r) = inl (r.0, m, r.1, omega arith, sym r.2, n)
    by (inr n) (inr o) = inr (λ a b l k e. ⊎_elim (λ q. n a b l q e) (λ q. o a (omega arith) (e ∙ ap h q)) (below b m k))

again : (N : ℕ) (h : ℕ → ℕ) → ((i : ℕ) → h i < N) → (i j : ℕ) × (i < j) × (j ≤ N) × (h j ≡ h i) × Apart h j
again N h high = by (first h (suc N))
  where
    by : ((i j : ℕ) × (i < j) × (j < suc N) × (h j ≡ h i) × Apart h j) ⊎ Apart h (suc N) → (i j : ℕ) × (i < j) × (j ≤ N) × (h j ≡ h i) × Apart h j
    by (inl r) = (r.0, r.1, r.2, omega (arith, r.3), r.4, r.5)
    by (inr n) = absurd (omega (arith, pigeonhole N (suc N) h (λ i l. high i) n))

-- where the next element hangs on the element alone, a walk in the box of B returns
pub boxed_returns : (f : ℕ → Elem) → ((i j : ℕ) → f i ≡ f j → f (suc i) ≡ f (suc j)) → (B : ℕ) → ((k : ℕ) → In B (f k)) →
    (l p : ℕ) × LeadPeriod f l p × (l + p ≤ (2 * B + 1) * (2 * B + 1))
boxed_returns f steady B inside =
    let r = again ((2 * B + 1) * (2 * B + 1)) (λ k. code B (f k)) (λ k. code_high B (f k) (inside k)) in (
      r.0,
      r.1 - r.0,
      lead_period f steady r.0 r.1 r.2 (code_one B (f r.1) (f r.0) (inside r.1) (inside r.0) r.4) (λ a b l k e. r.5 a b l k (ap (code B) e)),
      omega (arith, r.2, r.3),
    )

-- digits of norm at most D keep a trail at norm at most M, if M is at least 6·D
pub stays : (s : System) (g : Lawful s) (w D M : ℕ) (S : Elem → Type 0) → ((d : Elem) → S d → size s d ≤ D) → 6 * D ≤ M →
    (f : ℕ → Elem) → Trail s w S f → (i : ℕ) → size s (f i) ≤ M → (k : ℕ) → size s (f (i + k)) ≤ M
stays s g w D M S small room f t i h zero = subst (λ j. size s (f j) ≤ M) (omega arith) h
stays s g w D M S small room f t i h (suc k) =
    let q = step_is s g w D S small (f (i + k)) (t (i + k)).0 (f (suc (i + k))) (t (i + k)).1 in
    subst (λ j. size s (f j) ≤ M) (omega arith) (keeps s g D M room (f (i + k)) (t (i + k)).0 (f (suc (i + k))) q.0 q.1 (stays s g w D M S small room f t i h k))

pub returns_soon : (s : System) (g : Lawful s) (v : ℕ) (S : Elem → Type 0) → Full s (suc v) S → ((d : Elem) → S d → InRange d) →
    (f : ℕ → Elem) → Trail s (suc v) S f → size s (f 0) ≤ 6 * 260100 → (l p : ℕ) × LeadPeriod f l p × (l + p < 2 ^ 24)
returns_soon s g v S full ranged f t h =
    let low : (k : ℕ) → size s (f k) ≤ 6 * 260100 = λ k. subst (λ j. size s (f j) ≤ 6 * 260100) (omega arith) (stays s g (suc v) 260100 (6 * 260100) S (λ d m. digit_size s g d (ranged d m)) (omega arith) f t 0 h k) in
    let r = boxed_returns f (steady s g v S full f t) 1442 (λ k. in_box s g (6 * 260100) 1442 (omega arith) (f k) (low k)) in
    (r.0, r.1, r.2, omega (arith, r.3))

pub one_lead : (f : ℕ → Elem) (l p l' p' : ℕ) → LeadPeriod f l p → LeadPeriod f l' p' → (l ≡ l') × (p ≡ p')
one_lead f l p l' p' a b = (m, n)
  where
    by : Dec (l < l') → Dec (l' < l) → l ≡ l'
    by (yes h) d = absurd (b.first l h (p, a.some, a.back))
    by (no h) (yes k) = absurd (a.first l' k (p', b.some, b.back))
    by (no h) (no k) = omega arith

    m : l ≡ l'
    m = by (dec_lt l l') (dec_lt l' l)

    per : Dec (p < p') → Dec (p' < p) → p ≡ p'
    per (yes h) d = absurd (b.least p a.some h (subst (λ u. f (u + p) ≡ f u) m a.back))
    per (no h) (yes k) = absurd (a.least p' b.some k (subst (λ u. f (u + p') ≡ f u) (sym m) b.back))
    per (no h) (no k) = omega arith

    n : p ≡ p'
    n = per (dec_lt p p') (dec_lt p' p)
