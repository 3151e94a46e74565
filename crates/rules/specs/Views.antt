-- What a unit tells, and what it is made of: its number system, with the limits of the system's kind, and its engine.
use Rattle.std.specs.Prelude.{ℕ, List, [], ℤ, None, Option}
use Rattle.ring.specs.Elem.{Elem, 𝟘}
use Rattle.ring.specs.System.{System}
use Rattle.digits.specs.declared.verdict.Verdict.{Verdict}
use Rattle.engine.specs.Meaning.{Meaning}
pub use Rattle.engine.specs.Meaning.{Machine}
use Rattle.rules.specs.declared.calls.Standing.{Standing}
use Rattle.rules.specs.declared.calls.Standing.TheVariants.{Draft}

-- a number system with its widest width, and the loading and working limits of its kind
pub record Setting : Type 0 where
  pub ring : System
  pub widest : ℕ
  pub loading : ℕ
  pub working : ℕ

abbrev pub setting : System → ℕ → ℕ → ℕ → Setting
setting s widest loading working = record { ring = s; widest = widest; loading = loading; working = working }

-- the t and the n that an engine is made for
pub record EngineRing : Type 0 where
  pub t : ℤ
  pub n : ℤ

abbrev pub ring_of : {C : Type 0} → Meaning C → EngineRing
ring_of m = record { t = m.t; n = m.n }

-- a unit over engines of the type E: width, digits in the order held, standing, ticks, remainder, the verdict of the last accepted check while it lasts, engine
pub record View (E : Type 0) : Type 0 where
  pub width : ℕ
  pub digits : List Elem
  pub standing : Standing
  pub ticks : ℕ
  pub remainder : Elem
  pub verdict : Option Verdict
  pub engine : E

-- a new unit
abbrev pub new : {E : Type 0} → E → View E
new e = record { width = 1; digits = []; standing = Draft; ticks = 0; remainder = 𝟘; verdict = None; engine = e }
