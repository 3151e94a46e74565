-- A verdict judged by computing: what the test accepts holds by the definitions.
use Rattle.std.proofs.Common.{◌≡◌, ℕ, zero, suc, ◌+◌, ◌-◌, ◌*◌, ◌^◌, ◌<◌, ◌≤◌, Bool, true, false, not, T, ltb, leb, ◌≢◌, ◌⊎◌, List, [], ◌∷◌, length, get_or, ℤ, pos, nat_abs, ◌<ℤ◌, refl, ap, subst, inl, inr, mul-le-mul_right, mul-le-mul, arith, ltb→lt, leb→le}
use native.Mathlib.Decide.{dec_lt}
use borrow.Author.Differences.{ints}
use lib.Signed.{lt_z}
use Rattle.std.specs.List.{ContainsAt as Has, AllByRecursion}
use Rattle.ring.specs.Elem.{Elem, 𝟘}
use Rattle.ring.specs.System.{System, Lawful, norm, size}
use Rattle.ring.specs.Class.{Full}
use Rattle.ring.specs.Expansion.{Expands, HasExpansion}
use Rattle.ring.specs.Trail.{Trail, LeadPeriod}
use Rattle.ring.specs.Verdict.{Verdict, cleared, barred, Before, Barred, Holds}
use Rattle.ring.proofs.Norms.{size_is}
use Rattle.ring.proofs.Bound.{search_bound}
use Rattle.ring.proofs.Trails.{expansion_iff, steady, zero_stays, lead_period, never}
use Rattle.ring.proofs.Magnitudes.{size_x, size_y}
use Rattle.worked.specs.Worked.{Shown, Case, Right}
use Rattle.worked.proofs.Tests.{every, every_is, every_from, all_below, each_below, eq_z, eq_z_refl, eq_e, eq_e_is, eq_e_not, all_in, each_in}
use Rattle.worked.proofs.Walks.{rules, lawful_is, fullness, full_is, walk, walk_is, ends, ends_is, shows, shows_is}

-- ---- the norm as a natural number that computes
abbrev pub abs_norm : System → Elem → ℕ
abs_norm s a = nat_abs (norm s a)

module _ (s : System) (g : Lawful s) where
  abs_is : (a : Elem) → norm s a ≡ pos (abs_norm s a)
  unfolding size
  abs_is a = size_is s g a

  abs_x : (a : Elem) → 3 * (nat_abs a.x * nat_abs a.x) ≤ 4 * abs_norm s a
  unfolding size
  abs_x a = size_x s g a

  abs_y : (a : Elem) → 3 * (nat_abs a.y * nat_abs a.y) ≤ 4 * abs_norm s a
  unfolding size
  abs_y a = size_y s g a

  abs_bound : (v : ℕ) (ds : List Elem) → Full s (suc v) (Has ds) → (D : ℕ) → ((d : Elem) → Has ds d → abs_norm s d ≤ D) →
      ((z : Elem) → abs_norm s z * (2 * s.p ^ suc v - 3) ≤ 6 * D → HasExpansion s (suc v) (Has ds) z) → (z : Elem) → HasExpansion s (suc v) (Has ds) z
  unfolding size
  abs_bound v ds full D small near = search_bound s g v (Has ds) (record { odd = full.odd; some = full.some }) D small near

-- ---- the order of elements
abbrev pub either : Bool → Bool → Bool
either a b = elim a [ true ↦ true | false ↦ b ]

either_left : (a b : Bool) → T a → T (either a b)
either_left true b h = tt
either_left false b h = absurd h

either_right : (a b : Bool) → T b → T (either a b)
either_right true b h = tt
either_right false b h = h

abbrev pub before? : System → Elem → Elem → Bool
before? s a b = either (lt_z (norm s a) (norm s b)) (every (eq_z (norm s a) (norm s b) ∷ either (lt_z a.x b.x) (every (eq_z a.x b.x ∷ lt_z a.y b.y ∷ [])) ∷ []))

eq_z_from : (a b : ℤ) → a ≡ b → T (eq_z a b)
eq_z_from a b e = subst (λ u. T (eq_z a u)) e (eq_z_refl a)

before_from : (s : System) (a b : Elem) → Before s a b → T (before? s a b)
before_from s a b (inl h) = either_left (lt_z (norm s a) (norm s b)) (every (eq_z (norm s a) (norm s b) ∷ either (lt_z a.x b.x) (every (eq_z a.x b.x ∷ lt_z a.y b.y ∷ [])) ∷ [])) h.lt
before_from s a b (inr h) =
    either_right (lt_z (norm s a) (norm s b)) (every (eq_z (norm s a) (norm s b) ∷ either (lt_z a.x b.x) (every (eq_z a.x b.x ∷ lt_z a.y b.y ∷ [])) ∷ []))
    (every_from (eq_z (norm s a) (norm s b) ∷ either (lt_z a.x b.x) (every (eq_z a.x b.x ∷ lt_z a.y b.y ∷ [])) ∷ []) (eq_z_from (norm s a) (norm s b) h.0, (by h.1, tt)))
  where
    by : (a.x <ℤ b.x) ⊎ ((a.x ≡ b.x) × (a.y <ℤ b.y)) → T (either (lt_z a.x b.x) (every (eq_z a.x b.x ∷ lt_z a.y b.y ∷ [])))
    by (inl k) = either_left (lt_z a.x b.x) (every (eq_z a.x b.x ∷ lt_z a.y b.y ∷ [])) k.lt
    by (inr k) = either_right (lt_z a.x b.x) (every (eq_z a.x b.x ∷ lt_z a.y b.y ∷ [])) (every_from (eq_z a.x b.x ∷ lt_z a.y b.y ∷ []) (eq_z_from a.x b.x k.0, (k.1.lt, tt)))

-- ---- how far to look: the least X with n < (X + 1)²·k
abbrev reach : ℕ → ℕ → ℕ → ℕ → ℕ
reach zero n k X = X
reach (suc f) n k X = elim (ltb n ((X + 1) * (X + 1) * k)) [ true ↦ X | false ↦ reach f n k (X + 1) ]

root : (n k X a : ℕ) → n < (X + 1) * (X + 1) * k → a * a * k ≤ n → a ≤ X
root n k X a h l = by (dec_lt X a)
  where
    by : Dec (X < a) → a ≤ X
    by (yes m) = absurd (let o : X + 1 ≤ a = omega arith in let p = mul-le-mul_right k (mul-le-mul o o) in omega arith)
    by (no m) = omega arith

abbrev most : System → List Elem → ℕ
most s [] = 0
most s (d ∷ ds) = let m = most s ds in elim (leb (abs_norm s d) m) [ true ↦ m | false ↦ abs_norm s d ]

-- ---- cleared
abbrev cleared_at : System → ℕ → List Elem → ℕ → ℕ → ℕ → List Bool
cleared_at s v ds n D X =
    all_below (length ds) (λ k. leb (abs_norm s (get_or ds k 𝟘)) D) ∷
    ltb (8 * D) ((X + 1) * (X + 1) * (2 * s.p ^ suc v - 3)) ∷
    all_in X (ends s v ds n) ∷ []

cleared_is : (s : System) (g : Lawful s) (v : ℕ) (ds : List Elem) (full : Full s (suc v) (Has ds)) (n D X : ℕ) → T (every (cleared_at s v ds n D X)) → (z : Elem) → HasExpansion s (suc v) (Has ds) z
cleared_is s g v ds full n D X h = abs_bound s g v ds full D small near
  where
    q : AllByRecursion T (cleared_at s v ds n D X)
    q = every_is (cleared_at s v ds n D X) h

    small : (d : Elem) → Has ds d → abs_norm s d ≤ D
    small d m = subst (λ u. abs_norm s u ≤ D) (m.2 𝟘) (leb→le (abs_norm s (get_or ds m.0 𝟘)) D (each_below (length ds) (λ k. leb (abs_norm s (get_or ds k 𝟘)) D) q.0 m.0 m.1))

    inside : (K a N : ℕ) → 8 * D < (X + 1) * (X + 1) * K → 3 * (a * a) ≤ 4 * N → N * K ≤ 6 * D → a ≤ X
    inside K a N b l m = root (8 * D) K X a b (omega (arith, mul-le-mul_right K l))

    near : (z : Elem) → abs_norm s z * (2 * s.p ^ suc v - 3) ≤ 6 * D → HasExpansion s (suc v) (Has ds) z
    near z l =
        let b = ltb→lt (8 * D) ((X + 1) * (X + 1) * (2 * s.p ^ suc v - 3)) q.1.0 in
        ends_is s g v ds full n z (each_in X (ends s v ds n) q.1.1.0 z
        (inside (2 * s.p ^ suc v - 3) (nat_abs z.x) (abs_norm s z) b (abs_x s g z) l) (inside (2 * s.p ^ suc v - 3) (nat_abs z.y) (abs_norm s z) b (abs_y s g z) l))

-- ---- barred
abbrev earlier : System → ℕ → List Elem → ℕ → Elem → Elem → Bool
earlier s v ds n first z = elim (before? s z first) [ true ↦ ends s v ds n z | false ↦ true ]

abbrev apart? : System → ℕ → List Elem → Elem → ℕ → Bool
apart? s v ds z m = all_below m (λ b. all_below b (λ a. not (eq_e (walk s v ds z a) (walk s v ds z b))))

abbrev barred_at : System → ℕ → List Elem → ℕ → Elem → ℕ → ℕ → ℕ → List Bool
barred_at s v ds n first l p X =
    ltb 0 p ∷
    eq_e (walk s v ds first (l + p)) (walk s v ds first l) ∷
    not (eq_e (walk s v ds first l) 𝟘) ∷
    apart? s v ds first (l + p) ∷
    ltb (4 * abs_norm s first) ((X + 1) * (X + 1) * 3) ∷
    all_in X (earlier s v ds n first) ∷ []

barred_is : (s : System) (g : Lawful s) (v : ℕ) (ds : List Elem) (full : Full s (suc v) (Has ds)) (n : ℕ) (first : Elem) (l p X : ℕ) → T (every (barred_at s v ds n first l p X)) → Barred s (suc v) (Has ds) first l p
barred_is s g v ds full n first l p X h = record { none = none; earlier = before; trail = (f, t, refl, subst (LeadPeriod f l) (omega arith) round) }
  where
    f : ℕ → Elem
    f = walk s v ds first

    t : Trail s (suc v) (Has ds) f
    t = walk_is s g v ds full first

    q : AllByRecursion T (barred_at s v ds n first l p X)
    q = every_is (barred_at s v ds n first l p X) h

    some : 0 < p
    some = ltb→lt 0 p q.0

    back : f (l + p) ≡ f l
    back = eq_e_is (f (l + p)) (f l) q.1.0

    off : f l ≢ 𝟘
    off = eq_e_not (f l) 𝟘 q.1.1.0

    apart : (a b : ℕ) → a < b → b < l + p → f a ≢ f b
    apart a b i j = eq_e_not (f a) (f b) (each_below b (λ a. not (eq_e (f a) (f b))) (each_below (l + p) (λ b. all_below b (λ a. not (eq_e (f a) (f b)))) q.1.1.1.0 b j) a i)

    round : LeadPeriod f l (l + p - l)
    round = lead_period f (steady s g v (Has ds) full f t) l (l + p) (omega (arith, some)) back apart

    none : ¬ (HasExpansion s (suc v) (Has ds) first)
    none e = let r = (expansion_iff s g v (Has ds) full f t).0 e in never f (steady s g v (Has ds) full f t) (zero_stays s g v (Has ds) full f t) l p some back off r.0 r.1

    at_most : (z : Elem) → Before s z first → abs_norm s z ≤ abs_norm s first
    at_most z (inl b) = omega (arith, ints, abs_is s g z, abs_is s g first)
    at_most z (inr b) = omega (arith, ap nat_abs b.0)

    inside : (a N M : ℕ) → 3 * (a * a) ≤ 4 * N → N ≤ M → 4 * M < (X + 1) * (X + 1) * 3 → a ≤ X
    inside a N M i j k = root (4 * M) 3 X a k (omega arith)

    before : (z : Elem) → Before s z first → HasExpansion s (suc v) (Has ds) z
    before z b = by (before? s z first) (before_from s z first b) (each_in X (earlier s v ds n first) q.1.1.1.1.1.0 z (inside (nat_abs z.x) (abs_norm s z) (abs_norm s first) (abs_x s g z) (at_most z b) far) (inside (nat_abs z.y) (abs_norm s z) (abs_norm s first) (abs_y s g z) (at_most z b) far))
      where
        far : 4 * abs_norm s first < (X + 1) * (X + 1) * 3
        far = ltb→lt (4 * abs_norm s first) ((X + 1) * (X + 1) * 3) q.1.1.1.1.0

        by : (c : Bool) → T c → T (elim c [ true ↦ ends s v ds n z | false ↦ true ]) → HasExpansion s (suc v) (Has ds) z
        by true u k = ends_is s g v ds full n z k
        by false u k = absurd u

-- ---- a case
abbrev judge : System → ℕ → List Elem → ℕ → Verdict → List Bool
judge s v ds n cleared = let D = most s ds in cleared_at s v ds n D (reach 1000 (8 * D) (2 * s.p ^ suc v - 3) 0)
judge s v ds n (barred first l p) = barred_at s v ds n first l p (reach 1000 (4 * abs_norm s first) 3 0)

judge_is : (s : System) (g : Lawful s) (v : ℕ) (ds : List Elem) (full : Full s (suc v) (Has ds)) (n : ℕ) (d : Verdict) → T (every (judge s v ds n d)) → Holds s (suc v) (Has ds) d
judge_is s g v ds full n cleared h = let D = most s ds in cleared_is s g v ds full n D (reach 1000 (8 * D) (2 * s.p ^ suc v - 3) 0) h
judge_is s g v ds full n (barred first l p) h = barred_is s g v ds full n first l p (reach 1000 (4 * abs_norm s first) 3 0) h

abbrev all_shown : System → ℕ → List Elem → List Shown → Bool
all_shown s v ds [] = true
all_shown s v ds (e ∷ es) = every (shows s v ds e.element e.entries ∷ all_shown s v ds es ∷ [])

shown_is : (s : System) (g : Lawful s) (v : ℕ) (ds : List Elem) (full : Full s (suc v) (Has ds)) (es : List Shown) → T (all_shown s v ds es) → AllByRecursion (λ e. Expands s (suc v) (Has ds) e.element e.entries) es
shown_is s g v ds full [] h = tt
shown_is s g v ds full (e ∷ es) h =
    let q = every_is (shows s v ds e.element e.entries ∷ all_shown s v ds es ∷ []) h in
    (shows_is s g v ds full e.element e.entries q.0, shown_is s g v ds full es q.1.0)

abbrev right_at : System → ℕ → List Elem → Verdict → List Shown → List Bool
right_at s zero ds d es = false ∷ []
right_at s (suc v) ds d es = every (rules s) ∷ every (fullness s v ds) ∷ every (judge s v ds 40 d) ∷ all_shown s v ds es ∷ []

abbrev pub right? : Case → Bool
right? c = every (right_at c.system c.width c.digits c.verdict c.shown)

abbrev RightAt : System → ℕ → List Elem → Verdict → List Shown → Type 0
RightAt s w ds d es = Right (record { system = s; width = w; digits = ds; verdict = d; shown = es })

right_at_is : (s : System) (w : ℕ) (ds : List Elem) (d : Verdict) (es : List Shown) → T (every (right_at s w ds d es)) → RightAt s w ds d es
right_at_is s zero ds d es h = absurd h
right_at_is s (suc v) ds d es h =
    let q = every_is (right_at s (suc v) ds d es) h in
    let g = lawful_is s q.0 in
    let full = full_is s g v ds q.1.0 in
    record { lawful = g; full = full; verdict = judge_is s g v ds full 40 d q.1.1.0; shown = shown_is s g v ds full es q.1.1.1.0 }

abbrev pub all_right : List Case → Bool
all_right [] = true
all_right (c ∷ cs) = every (right? c ∷ all_right cs ∷ [])

pub all_right_is : (cs : List Case) → T (all_right cs) → AllByRecursion Right cs
all_right_is [] h = tt
all_right_is (c ∷ cs) h =
    let q = every_is (right? c ∷ all_right cs ∷ []) h in
    (right_at_is c.system c.width c.digits c.verdict c.shown q.0, all_right_is cs q.1.0)
