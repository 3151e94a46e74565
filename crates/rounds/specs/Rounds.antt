-- Trails of a map on elements, and what following one tells.
use Rattle.std.specs.Prelude.{◌≡◌, ℕ, zero, suc, ◌+◌, ◌<◌, ◌≤◌, ◌≢◌, Option, MatchOption}
use Rattle.ring.specs.Elem.{Elem}
use Rattle.ring.specs.System.{System}
use Rattle.ring.specs.Trail.{Returns, LeadPeriod}
use Rattle.ring.specs.Verdict.{Before}
use Rattle.rounds.specs.declared.cycles.Orbit.{Orbit}

-- z after k steps
abbrev pub after : (Elem → Elem) → ℕ → Elem → Elem
after next zero z = z
after next (suc k) z = next (after next k z)

-- the trail of z comes to an element before z
abbrev pub Falls : (Elem → Elem) → System → Elem → Type 0
Falls next s z = (k : ℕ) × Before s (after next k z) z

-- the element after `from` steps returns after `period` more, no sooner, and does not stand before z
pub record CycleAt (next : Elem → Elem) (s : System) (z : Elem) (from period : ℕ) : Type 0 where
  pub some : 0 < period
  pub back : after next (from + period) z ≡ after next from z
  pub least : (k : ℕ) → 0 < k → k < period → after next (from + k) z ≢ after next from z
  pub late : ¬ (Before s (after next from z) z)

-- l is the first place from which the trail stands `period` later where it stands
pub record LeadIs (next : Elem → Elem) (z : Elem) (from period l : ℕ) : Type 0 where
  pub within : l ≤ from
  pub back : after next (l + period) z ≡ after next l z
  pub first : (i : ℕ) → i < l → after next (i + period) z ≢ after next i z

-- the trail of z falls; or it has this lead and period, and an element that returns does not stand before z
abbrev pub Runs : (Elem → Elem) → System → Elem → Option Orbit → Type 0
Runs next s z r = MatchOption r (Falls next s z) (λ o. LeadPeriod (λ k. after next k z) o.lead o.period × ((i : ℕ) × Returns (λ k. after next k z) i × ¬ (Before s (after next i z) z)))
