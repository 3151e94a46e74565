-- How large the elements of a trail grow, and how long expansions are, over every lawful system.
use Rattle.std.specs.Prelude.{ℕ, ◌+◌, ◌*◌, ◌^◌, ◌<◌, ◌≤◌, List, length}
use Rattle.std.specs.List.{ContainsAt as Has}
use Rattle.ring.specs.Elem.{Elem, Below, sub}
use Rattle.ring.specs.System.{System, Lawful, size}
use Rattle.ring.specs.Class.{InRange, Full}
use Rattle.ring.specs.Expansion.{Expands}
use Rattle.ring.specs.Trail.{Step, Trail, LeadPeriod}

-- what each step of a run keeps: the norm is at most 4·L²
abbrev pub Within : System → ℕ → Elem → Type 0
Within s L z = size s z ≤ 4 * (L * L)

-- an element below L starts a trail that stays below 3·L, whatever the digits in range
abbrev pub StaysWithin : Type 0
StaysWithin = (s : System) → Lawful s → (L : ℕ) → 1024 ≤ L → record {
  loaded : (z : Elem) → Below L z → Within s L z;
  step : (w : ℕ) (ds : List Elem) → ((d : Elem) → Has ds d → InRange d) → (z d r : Elem) → Step s w (Has ds) z d r → Within s L z → Within s L r;
  coordinates : (z : Elem) → Within s L z → Below (3 * L) z;
  difference : (z d : Elem) → Within s L z → InRange d → Below (4 * L) (sub z d);
}

-- D bounds the norms of the digits: from an element with both magnitudes below 2^k, 2k + 2 steps lead to norm at most 12·D
abbrev pub NormFalls : Type 0
NormFalls = (s : System) → Lawful s → (w : ℕ) (ds : List Elem) (D : ℕ) → 1 ≤ D → ((d : Elem) → Has ds d → size s d ≤ D) →
    (f : ℕ → Elem) → Trail s w (Has ds) f → (k : ℕ) → Below (2 ^ k) (f 0) → size s (f (2 * k + 2)) ≤ 12 * D

-- so an expansion is no longer than 2k + 2 plus the number of elements of norm at most 12·D, which the list zs has
abbrev pub LengthBound : Type 0
LengthBound = (s : System) → Lawful s → (w : ℕ) → 1 ≤ w → (ds : List Elem) → Full s w (Has ds) → (D : ℕ) → 1 ≤ D → ((d : Elem) → Has ds d → size s d ≤ D) →
    (zs : List Elem) → ((z : Elem) → size s z ≤ 12 * D → Has zs z) →
    (k : ℕ) (z : Elem) (es : List Elem) → Below (2 ^ k) z → Expands s w (Has ds) z es → length es ≤ 2 * k + 2 + length zs

-- an expansion of an element with both magnitudes below 2^56, over digits in range, is shorter than 2^32
abbrev pub LengthFits : Type 0
LengthFits = (s : System) → Lawful s → (w : ℕ) → 1 ≤ w → (ds : List Elem) → Full s w (Has ds) → ((d : Elem) → Has ds d → InRange d) →
    (z : Elem) (es : List Elem) → Below (2 ^ 56) z → Expands s w (Has ds) z es → length es < 2 ^ 32

-- a trail over digits in range whose first norm is at most 6·260100 returns after fewer than 2^24 steps
abbrev pub ReturnsSoon : Type 0
ReturnsSoon = (s : System) → Lawful s → (w : ℕ) → 1 ≤ w → (ds : List Elem) → Full s w (Has ds) → ((d : Elem) → Has ds d → InRange d) →
    (f : ℕ → Elem) → Trail s w (Has ds) f → size s (f 0) ≤ 6 * 260100 → (l p : ℕ) × LeadPeriod f l p × (l + p < 2 ^ 24)
