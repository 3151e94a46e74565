-- Which t and n an engine is made for, and when they are those of a number system.
use Rattle.std.specs.Prelude.{◌≡◌, ℤ, pos, negsuc, ◌≤ℤ◌}
use Rattle.ring.specs.System.{System}
use Rattle.engine.specs.Meaning.{Meaning}

-- t from −1 to 1, and n from 1 to 2
abbrev pub InRing : ℤ → ℤ → Type 0
InRing t n = (negsuc 0 ≤ℤ t) × (t ≤ℤ pos 1) × (pos 1 ≤ℤ n) × (n ≤ℤ pos 2)

-- the meaning's t and n are the system's
pub record Over {C : Type 0} (s : System) (m : Meaning C) : Type 0 where
  pub same_t : m.t ≡ s.t
  pub same_n : m.n ≡ s.n
