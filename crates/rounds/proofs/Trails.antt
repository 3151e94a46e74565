-- Trails of a map: where they return.
use Rattle.std.proofs.Common.{◌≡◌, ℕ, zero, suc, ◌+◌, ◌-◌, ◌*◌, ◌<◌, ◌≤◌, ◌≢◌, sym, refl, ap, ◌∙◌, subst, ⊎_elim, add-zero, add-one, add-suc, arith}
use Rattle.ring.specs.Elem.{Elem}
use Rattle.ring.specs.System.{System, Lawful, size}
use Rattle.ring.specs.Trail.{LeadPeriod}
use Rattle.ring.specs.Verdict.{Before}
use Rattle.ring.proofs.Pigeonhole.{pigeonhole, below}
use Rattle.ring.proofs.Trails.{shift, round}
use Rattle.ring.proofs.Boxes.{In, code, code_high, code_one}
use Rattle.rounds.specs.Rounds.{after, Falls, CycleAt, LeadIs}
use Rattle.rounds.proofs.Orders.{side, boxed}

-- z returns after `period` steps, and no sooner
pub record ReturnsAfter (next : Elem → Elem) (z : Elem) (period : ℕ) : Type 0 where
  pub some : 0 < period
  pub back : after next period z ≡ z
  pub least : (k : ℕ) → 0 < k → k < period → after next k z ≢ z

-- from the mark, `gone` steps lead to the hare, and the mark does not return within them
pub record Gone (next : Elem → Elem) (mark : Elem) (gone : ℕ) (hare : Elem) : Type 0 where
  pub there : hare ≡ after next gone mark
  pub none : (k : ℕ) → 0 < k → k ≤ gone → after next k mark ≢ mark

module _ (next : Elem → Elem) (z : Elem) where
  abbrev pub f : ℕ → Elem
  f k = after next k z

  pub more : (k : ℕ) (a b : Elem) → a ≡ f k → b ≡ next a → b ≡ f (k + 1)
  more k a b e h = rw add-one (h ∙ ap next e)

  -- a step further, where it does not return either
  pub gone_more : (n : ℕ) (a b : Elem) → Gone next z n a → b ≡ next a → b ≢ z → Gone next z (n + 1) b
  gone_more n a b p h apart =
      let e : b ≡ f (n + 1) = more n a b p.there h in
      record { there = e; none = λ k o l. ⊎_elim (λ m. p.none k o (omega arith)) (λ m. subst (λ j. f j ≢ z) (sym m) (λ q. apart (e ∙ q))) (below k (n + 1) (omega arith)) }

  pub gone_none : Gone next z 0 z
  gone_none = record { there = refl; none = λ k o l. absurd (omega arith) }

  -- k steps from the n-th element
  pub from_there : (n k : ℕ) (a : Elem) → a ≡ f n → after next k a ≡ f (n + k)
  from_there n zero a e = e ∙ ap f (sym (add-zero n))
  from_there n (suc k) a e = ap next (from_there n k a e) ∙ ap f (sym (add-suc n k))

  -- what is told of an element of the trail is told of the trail
  pub falls_from : (s : System) (n : ℕ) (mark : Elem) → mark ≡ f n → (k : ℕ) × Before s (after next k mark) z → Falls next s z
  falls_from s n mark e h = (n + h.0, subst (λ u. Before s u z) (from_there n h.0 mark e) h.1)

  pub cycle_from : (s : System) (n period : ℕ) (mark : Elem) → mark ≡ f n → ¬ (Before s mark z) → ReturnsAfter next mark period → CycleAt next s z n period
  cycle_from s n period mark e late r = record {
    some = r.some;
    back = sym (from_there n period mark e) ∙ r.back ∙ e;
    least = λ k o l q. r.least k o l (from_there n k mark e ∙ q ∙ sym e);
    late = subst (λ u. ¬ (Before s u z)) e late;
  }

  pub steady : (i j : ℕ) → f i ≡ f j → f (suc i) ≡ f (suc j)
  steady i j e = ap next e

  moved : (i j k : ℕ) → f i ≡ f j → f (i + k) ≡ f (j + k)
  moved = shift f steady

  -- no element of the trail leaves the norms at most M
  module _ (s : System) (M : ℕ) (closed : (a : Elem) → size s a ≤ M → size s (next a) ≤ M) (h : size s z ≤ M) where
    small_at : (k : ℕ) → size s (f k) ≤ M
    small_at zero = h
    small_at (suc k) = closed (f k) (small_at k)

    pub kept : (k : ℕ) (a : Elem) → a ≡ f k → size s a ≤ M
    kept k a e = subst (λ u. size s u ≤ M) (sym e) (small_at k)

    pub kept_from : (n k : ℕ) (mark a : Elem) → mark ≡ f n → a ≡ after next k mark → size s a ≤ M
    kept_from n k mark a e h = kept (n + k) a (h ∙ from_there n k mark e)

  -- as long as nothing returned to the i-th element within i + 1 steps, the elements up to it are distinct
  distinct : (i : ℕ) → ((k : ℕ) → 0 < k → k < i + 1 → f (i + k) ≢ f i) → (a b : ℕ) → a < b → b < i + 1 → f a ≢ f b
  distinct i h a b l m e = h (b - a) (omega arith) (omega arith) (ap f (omega arith) ∙ moved b a (i - a) (sym e) ∙ ap f (omega arith))

  -- so they are no more than the elements of the box
  few : (s : System) → Lawful s → (M : ℕ) → M ≤ 1600000 → ((a : Elem) → size s a ≤ M → size s (next a) ≤ M) → size s z ≤ M →
      (i : ℕ) → ((k : ℕ) → 0 < k → k < i + 1 → f (i + k) ≢ f i) → i + 1 ≤ 2921 * 2921
  few s g M small closed h i none =
      let in_f : (k : ℕ) → In side (f k) = λ k. boxed s g M small (f k) (small_at s M closed h k) in
      pigeonhole (2921 * 2921) (i + 1) (λ k. code side (f k)) (λ k _. code_high side (f k) (in_f k)) (λ a b l m e. distinct i none a b l m (code_one side (f a) (f b) (in_f a) (in_f b) e))

  -- and a mark at index power − 1 that does not return within `power` steps leaves to the next mark
  pub next_mark : (s : System) → Lawful s → (M : ℕ) → M ≤ 1600000 → ((a : Elem) → size s a ≤ M → size s (next a) ≤ M) → size s z ≤ M →
      (power : ℕ) (mark end : Elem) → 0 < power → mark ≡ f (power - 1) → Gone next mark power end → (end ≡ f (power * 2 - 1)) × (power ≤ 2921 * 2921)
  next_mark s g M small closed h power mark end o e p = (
    p.there ∙ from_there (power - 1) power mark e ∙ ap f (omega arith),
    let b = few s g M small closed h (power - 1) (λ k o l q. p.none k o (omega arith) (from_there (power - 1) k mark e ∙ q ∙ sym e)) in omega arith,
  )

  pub lead_period : (s : System) (from period l : ℕ) → CycleAt next s z from period → LeadIs next z from period l → LeadPeriod f l period
  lead_period s from period l b e = record {
    some = b.some;
    back = e.back;
    first = λ i h r. e.first i h (again i r.0 r.1 r.2);
    least = λ k o m q. b.least k o m (let w = e.within in ap f (omega arith) ∙ moved (l + k) l (from - l) q ∙ ap f (omega arith));
  }
    where
      -- what returns does so after `period` steps
      again : (i k : ℕ) → 0 < k → f (i + k) ≡ f i → f (i + period) ≡ f i
      again i k o q =
          let far : ℕ = i + from * k in
          let home : f far ≡ f i = round f steady i k from q in
          let w : from ≤ far = by from k o in
          let there : f (far + period) ≡ f far = ap f (omega arith) ∙ moved (from + period) from (far - from) b.back ∙ ap f (omega arith) in
          moved i far period (sym home) ∙ there ∙ home
        where
          by : (m k : ℕ) → 0 < k → m ≤ i + m * k
          by m zero o = absurd (omega arith)
          by m (suc k) o = omega arith
