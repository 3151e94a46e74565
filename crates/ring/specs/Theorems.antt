-- Expansions, trails, the search bound and the number of classes, over every lawful system.
use Rattle.std.specs.Prelude.{◌≡◌, ℕ, ◌+◌, ◌-◌, ◌*◌, ◌^◌, ◌<◌, ◌≤◌, ◌≢◌, ◌↔◌, List, length, slice_index_or}
use Rattle.std.specs.List.{ContainsAt as Has}
use Rattle.ring.specs.Elem.{Elem, Below, 𝟘}
use Rattle.ring.specs.System.{System, Lawful, size, classes}
use Rattle.ring.specs.Class.{Even, SameClass, Covers, Full}
use Rattle.ring.specs.Expansion.{Expands, HasExpansion}
use Rattle.ring.specs.Trail.{Trail, Returns, LeadPeriod}
use Rattle.ring.specs.Verdict.{Verdict, Cleared, Holds}

-- over a full set an element has at most one expansion
abbrev pub OneExpansion : Type 0
OneExpansion = (s : System) → Lawful s → (w : ℕ) → 1 ≤ w → (ds : List Elem) → Full s w (Has ds) →
    (z : Elem) (es fs : List Elem) → Expands s w (Has ds) z es → Expands s w (Has ds) z fs → es ≡ fs

-- es begins with the digit of z's class, and w − 1 zeros follow
pub record Begins (s : System) (w : ℕ) (ds : List Elem) (z : Elem) (es : List Elem) : Type 0 where
  pub digit : Has ds (slice_index_or es 0 𝟘) × SameClass s w z (slice_index_or es 0 𝟘)
  pub zeros : (j : ℕ) → 0 < j → j < w → slice_index_or es j 𝟘 ≡ 𝟘

-- so does the expansion of every element that β does not divide
abbrev pub ExpansionBegins : Type 0
ExpansionBegins = (s : System) → Lawful s → (w : ℕ) → 1 ≤ w → (ds : List Elem) → Full s w (Has ds) →
    (z : Elem) (es : List Elem) → ¬ (Even s z) → Expands s w (Has ds) z es → Begins s w ds z es

-- an element has an expansion exactly if its trail reaches 0
abbrev pub TrailReachesZero : Type 0
TrailReachesZero = (s : System) → Lawful s → (w : ℕ) → 1 ≤ w → (ds : List Elem) → Full s w (Has ds) →
    (f : ℕ → Elem) → Trail s w (Has ds) f → HasExpansion s w (Has ds) (f 0) ↔ ((k : ℕ) × (f k ≡ 𝟘))

-- D bounds the norms of the digits, at least one in each class: if each element with N·(2p^w − 3) ≤ 6·D has an expansion, every element has one
abbrev pub SearchBound : Type 0
SearchBound = (s : System) → Lawful s → (w : ℕ) → 1 ≤ w → (ds : List Elem) → Covers s w (Has ds) →
    (D : ℕ) → ((d : Elem) → Has ds d → size s d ≤ D) →
    ((z : Elem) → size s z * (2 * s.p ^ w - 3) ≤ 6 * D → HasExpansion s w (Has ds) z) → Cleared s w (Has ds)

-- a trail that returns to an element other than 0 never reaches 0
abbrev pub ReturnsAwayFromZero : Type 0
ReturnsAwayFromZero = (s : System) → Lawful s → (w : ℕ) → 1 ≤ w → (ds : List Elem) → Full s w (Has ds) →
    (f : ℕ → Elem) → Trail s w (Has ds) f → (i : ℕ) → Returns f i → f i ≢ 𝟘 → (k : ℕ) → f k ≢ 𝟘

-- a trail whose first j elements differ and whose j-th is its i-th has lead i and period j − i
abbrev pub LeadAndPeriod : Type 0
LeadAndPeriod = (s : System) → Lawful s → (w : ℕ) → 1 ≤ w → (ds : List Elem) → Full s w (Has ds) →
    (f : ℕ → Elem) → Trail s w (Has ds) f → (i j : ℕ) → i < j → f j ≡ f i →
    ((a b : ℕ) → a < b → b < j → f a ≢ f b) → LeadPeriod f i (j - i)

-- a trail inside the box of magnitudes below B returns, and lead and period together are at most the number of elements of the box
abbrev pub BoxedTrailReturns : Type 0
BoxedTrailReturns = (s : System) → Lawful s → (w : ℕ) → 1 ≤ w → (ds : List Elem) → Full s w (Has ds) →
    (f : ℕ → Elem) → Trail s w (Has ds) f → (B : ℕ) → ((k : ℕ) → Below B (f k)) →
    (l p : ℕ) × LeadPeriod f l p × (l + p ≤ (2 * B - 1) * (2 * B - 1))

-- a trail has one lead and one period
abbrev pub OneLeadAndPeriod : Type 0
OneLeadAndPeriod = (f : ℕ → Elem) (l p m q : ℕ) → LeadPeriod f l p → LeadPeriod f m q → (l ≡ m) × (p ≡ q)

-- a full set has one verdict only
abbrev pub OneVerdict : Type 0
OneVerdict = (s : System) → Lawful s → (w : ℕ) → 1 ≤ w → (ds : List Elem) → Full s w (Has ds) →
    (u v : Verdict) → Holds s w (Has ds) u → Holds s w (Has ds) v → u ≡ v

-- digits that β does not divide, pairwise of different classes, by their places in the list
pub record Apart (s : System) (w : ℕ) (ds : List Elem) : Type 0 where
  pub odd : (k : ℕ) → k < length ds → ¬ (Even s (slice_index_or ds k 𝟘))
  pub apart : (i j : ℕ) → i < j → j < length ds → ¬ (SameClass s w (slice_index_or ds i 𝟘) (slice_index_or ds j 𝟘))

-- the classes that β does not divide number (p − 1)·p^(w − 1): so many elements represent each of them once
abbrev pub ClassesNumber : Type 0
ClassesNumber = (s : System) → Lawful s → (w : ℕ) → 1 ≤ w →
    (rs : List Elem) × Apart s w rs × Full s w (Has rs) × (length rs ≡ classes s.p w)

-- digits of pairwise different classes are full exactly when they are that many
abbrev pub FullByNumber : Type 0
FullByNumber = (s : System) → Lawful s → (w : ℕ) → 1 ≤ w → (ds : List Elem) → Apart s w ds →
    (length ds ≡ classes s.p w) ↔ Full s w (Has ds)
