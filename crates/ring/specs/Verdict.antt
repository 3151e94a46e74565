-- Verdicts on a set of digits, and the order in which its elements are looked at.
use Rattle.std.specs.Prelude.{◌≡◌, ℕ, ◌⊎◌, ◌<ℤ◌}
use Rattle.ring.specs.Elem.{Elem}
use Rattle.ring.specs.System.{System, norm}
use Rattle.ring.specs.Expansion.{HasExpansion}
use Rattle.ring.specs.Trail.{Trail, LeadPeriod}

-- a verdict: cleared, or barred with the first element that has no expansion, and the lead and period of its trail
pub data Verdict : Type 0 where
  cleared : Verdict
  barred : Elem → ℕ → ℕ → Verdict

-- a comes before b: by smaller norm, then smaller x, then smaller y
abbrev pub Before : System → Elem → Elem → Type 0
Before s a b = (norm s a <ℤ norm s b) ⊎ ((norm s a ≡ norm s b) × ((a.x <ℤ b.x) ⊎ ((a.x ≡ b.x) × (a.y <ℤ b.y))))

-- every element of the ring, of any size, has an expansion
abbrev pub Cleared : System → ℕ → (Elem → Type 0) → Type 0
Cleared s w S = (z : Elem) → HasExpansion s w S z

-- first has no expansion, every element before it has one, and its trail has this lead and period
pub record Barred (s : System) (w : ℕ) (S : Elem → Type 0) (first : Elem) (lead period : ℕ) : Type 0 where
  pub none : ¬ (HasExpansion s w S first)
  pub earlier : (z : Elem) → Before s z first → HasExpansion s w S z
  pub trail : (f : ℕ → Elem) × Trail s w S f × (f 0 ≡ first) × LeadPeriod f lead period

abbrev pub Holds : System → ℕ → (Elem → Type 0) → Verdict → Type 0
Holds s w S cleared = Cleared s w S
Holds s w S (barred first lead period) = Barred s w S first lead period
