-- What the search tells.
use Rattle.std.specs.Prelude.{◌≡◌, ℕ, ◌+◌, ◌*◌, ◌<◌, ◌≤◌, ℤ, unsigned_abs, Option, Some, MatchOption}
use Rattle.ring.specs.Elem.{Elem, 𝟘}
use Rattle.ring.specs.System.{System, size}
use Rattle.ring.specs.Trail.{LeadPeriod}
use Rattle.ring.specs.Verdict.{Before}
use Rattle.numbers.specs.Meaning.{short}
use Rattle.rounds.specs.Rounds.{after, Falls, Runs}
use Rattle.rounds.specs.declared.cycles.Orbit.{Orbit}
use Rattle.digits.specs.declared.verdict.Verdict.{Verdict}
use Rattle.digits.specs.declared.verdict.Verdict.TheVariants.{Cleared, Barred}

abbrev pub point : ℤ → ℤ → Elem
point a b = record { x = a; y = b }

-- the trail of z comes to 0
abbrev pub Ends : (Elem → Elem) → Elem → Type 0
Ends next z = (k : ℕ) × (after next k z ≡ 𝟘)

-- no coordinate of an element of norm at most top passes c
abbrev pub Bounds : ℕ → ℤ → Type 0
Bounds top c = 4 * top < 3 * ((unsigned_abs c + 1) * (unsigned_abs c + 1))

-- each element of norm from `from` below `least` in the column x, with y from −c to c, falls
abbrev pub Column : (Elem → Elem) → System → ℕ → ℕ → ℤ → ℤ → Type 0
Column next s from least c x = (z : Elem) → z.x ≡ x → unsigned_abs z.y ≤ unsigned_abs c → from ≤ size s z → size s z < least → Falls next s z

-- each element of norm from `from` below `least` falls
abbrev pub Shell : (Elem → Elem) → System → ℕ → ℕ → Type 0
Shell next s from least = (z : Elem) → from ≤ size s z → size s z < least → Falls next s z

-- each element of norm below n comes to 0
abbrev pub Inner : (Elem → Elem) → System → ℕ → Type 0
Inner next s n = (z : Elem) → size s z < n → Ends next z

-- how the trail of z goes, if z is of norm n
abbrev pub Tried : (Elem → Elem) → System → ℕ → Elem → Option Orbit → Type 0
Tried next s n z r = MatchOption r (size s z ≡ n → Falls next s z) (λ o. (size s z ≡ n) × Runs next s z (Some o))

-- z does not come to 0, every element before z does, and the trail of z has lead l and period p
pub record First (next : Elem → Elem) (s : System) (z : Elem) (l p : ℕ) : Type 0 where
  pub none : ¬ (Ends next z)
  pub earlier : (a : Elem) → Before s a z → Ends next a
  pub round : LeadPeriod (λ k. after next k z) l p

-- every element of norm at most the bound comes to 0, or the witness is the first that does not
abbrev pub Judged : (Elem → Elem) → System → ℕ → Verdict → Type 0
Judged next s bound Cleared = (z : Elem) → size s z ≤ bound → Ends next z
Judged next s bound (Barred z l p) = First next s (short z) l p
