-- Steps, and trails: an element and its remainders, step after step (an orbit).
use Rattle.std.specs.Prelude.{◌≡◌, ℕ, suc, ◌+◌, ◌<◌, ◌≢◌, ◌⊎◌}
use Rattle.ring.specs.Elem.{Elem, sub, 𝟘}
use Rattle.ring.specs.System.{System, mul}
use Rattle.ring.specs.Class.{Even, SameClass}

-- the step from z has the digit d and the remainder r: 0 and z/β where β divides z, else the digit of z's class and (z − d)/β
abbrev pub Step : System → ℕ → (Elem → Type 0) → Elem → Elem → Elem → Type 0
Step s w S z d r = (Even s z × (d ≡ 𝟘) × (mul s s.β r ≡ z)) ⊎ ((¬ (Even s z)) × S d × SameClass s w z d × (mul s s.β r ≡ sub z d))

-- f 0, f 1, .. is the trail of f 0
abbrev pub Trail : System → ℕ → (Elem → Type 0) → (ℕ → Elem) → Type 0
Trail s w S f = (k : ℕ) → (d : Elem) × Step s w S (f k) d (f (suc k))

-- the element after i steps returns
abbrev pub Returns : (ℕ → Elem) → ℕ → Type 0
Returns f i = (k : ℕ) × (0 < k) × (f (i + k) ≡ f i)

-- the lead (preperiod) is the least number of steps to an element that returns, the period the least number of steps, above 0, until it does
pub record LeadPeriod (f : ℕ → Elem) (lead period : ℕ) : Type 0 where
  pub some : 0 < period
  pub back : f (lead + period) ≡ f lead
  pub first : (i : ℕ) → i < lead → ¬ (Returns f i)
  pub least : (k : ℕ) → 0 < k → k < period → f (lead + k) ≢ f lead
