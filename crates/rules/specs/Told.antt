-- What each call answers, and the unit after it.
use Rattle.std.specs.Prelude.{◌≡◌, ℕ, ◌+◌, ◌^◌, ◌≤◌, ◌≢◌, ◌⊎◌, List, [], ◌∷◌, ◌++◌, length, ℤ, Some, None, Ok, Err, Option, Result, MatchResult}
use Rattle.std.specs.List.{ContainsAt as Has}
use Rattle.ring.specs.Elem.{Elem, Below, 𝟘}
use Rattle.ring.specs.System.{System, classes}
use Rattle.ring.specs.Trail.{Step}
use Rattle.ring.specs.Verdict.{Holds}
use Rattle.refusals.specs.declared.Refusal.{Refusal}
use Rattle.refusals.specs.declared.Refusal.TheVariants.{Doubled, Idle}
use Rattle.numbers.specs.Meaning.{short}
use Rattle.numbers.specs.declared.elements.Element.{Element}
use Rattle.digits.specs.Stepping.{Stepped}
use Rattle.digits.specs.Verdicts.{verdict_of}
use Rattle.digits.specs.declared.verdict.Verdict.{Verdict}
use Rattle.digits.specs.declared.verdict.Verdict.TheVariants as verdict
use Rattle.engine.specs.Meaning.{act, elem}
use Rattle.rules.specs.Lists.{without}
use Rattle.rules.specs.Views.{Setting, Machine, ring_of, View}
use Rattle.rules.specs.Table.{Row, rows, Uppermost, Unfit}
use Rattle.rules.specs.declared.calls.Standing.{Standing}
use Rattle.rules.specs.declared.calls.Standing.TheVariants.{Draft, Cleared, Barred, Running}
use Rattle.rules.specs.declared.calls.Answer.{Answer}
use Rattle.rules.specs.declared.calls.Answer.TheVariants.{Classes, Held, Judged, Loaded, Digit, Abandoned, Refused}
use Rattle.rules.specs.declared.calls.Call.{Call}
use Rattle.rules.specs.declared.calls.Call.TheVariants.{Width, Put, Take, Check, Load, Tick, Abandon}

-- how a verdict leaves the unit
abbrev pub left : Verdict → Standing
left verdict.Cleared = Cleared
left (verdict.Barred first lead period) = Barred

-- how a load or a tick leaves the unit: cleared where the remainder is 0, else running
abbrev pub Closes : Elem → Standing → Type 0
Closes z s = ((z ≡ 𝟘) × (s ≡ Cleared)) ⊎ ((z ≢ 𝟘) × (s ≡ Running))

module _ {E C : Type 0} (M : Machine E C) where
  -- the engine restarted
  pub record Restarted (e f : E) : Type 0 where
    pub meaning : M.meaning f ≡ M.meaning e
    pub total : M.total_of f ≡ (M.meaning e).origin
    pub current : M.current_of f ≡ (M.meaning e).start

  -- the digit d added, and the engine moved by b
  pub record Moved (d b : Elem) (e f : E) : Type 0 where
    pub meaning : M.meaning f ≡ M.meaning e
    pub total : M.total_of f ≡ (M.meaning e).sum (M.total_of e) (act (M.meaning e) d (M.current_of e))
    pub current : M.current_of f ≡ act (M.meaning e) b (M.current_of e)

-- no step can be taken from z below the limit
abbrev pub Stopped : System → ℕ → ℕ → List Elem → Elem → Type 0
Stopped s limit w ds z = (d r : Elem) → Below limit z → ¬ (Step s w (Has ds) z d r)

-- v is the unit at the call, w the unit after it
module _ {E C : Type 0} (k : Setting) (M : Machine E C) (v w : View E) where
  -- the rows for a call on the unit v
  abbrev pub rows_at : Call → List Row
  rows_at c = rows k (ring_of (M.meaning v.engine)) v.width (Has v.digits) v.standing c

  -- the unit with another width, other digits, another standing and verdict
  abbrev pub redrawn : ℕ → List Elem → Standing → Option Verdict → View E
  redrawn n ds s o = record { width = n; digits = ds; standing = s; ticks = v.ticks; remainder = v.remainder; verdict = o; engine = v.engine }

  -- a call that is refused alters nothing
  pub record Down (c : Call) (e : Refusal) : Type 0 where
    pub why : Uppermost (rows_at c) e
    pub same : w ≡ v

  pub record Widens (n c : ℕ) : Type 0 where
    pub fits : Unfit (rows_at (Width n))
    pub number : c ≡ classes k.ring.p n
    pub after : w ≡ redrawn n [] Draft None

  pub record Puts (x y : ℤ) (j : ℕ) : Type 0 where
    pub fits : Unfit (rows_at (Put x y))
    pub number : j ≡ length v.digits + 1
    pub after : w ≡ redrawn v.width (v.digits ++ elem x y ∷ []) Draft None

  -- also where 128 digits are held and none of the class, which no list of calls brings about
  pub record DownPut (x y : ℤ) (e : Refusal) : Type 0 where
    pub why : Uppermost (rows_at (Put x y)) e ⊎ ((e ≡ Doubled) × (length v.digits ≡ 128) × Unfit (rows_at (Put x y)))
    pub same : w ≡ v

  pub record Takes (x y : ℤ) (j : ℕ) : Type 0 where
    pub fits : Unfit (rows_at (Take x y))
    pub number : j + 1 ≡ length v.digits
    pub after : w ≡ redrawn v.width (without v.digits (elem x y)) Draft None

  pub record Checks (r : Verdict) : Type 0 where
    pub fits : Unfit (rows_at Check)
    pub verdict : Holds k.ring v.width (Has v.digits) (verdict_of r)
    pub after : w ≡ redrawn v.width v.digits (left r) (Some r)

  pub record Loads (z : Element ℤ) : Type 0 where
    pub fits : Unfit (rows_at (Load z))
    pub restarted : Restarted M v.engine w.engine
    pub stands : Closes (short z) w.standing
    pub after : w ≡ record { width = v.width; digits = v.digits; standing = w.standing; ticks = 0; remainder = short z; verdict = v.verdict; engine = w.engine }

  pub record Ticks (d : Element ℤ) : Type 0 where
    pub fits : Unfit (rows_at Tick)
    pub step : Stepped k.ring k.working v.width v.digits v.remainder (short d) w.remainder
    pub moved : Moved M (short d) k.ring.β v.engine w.engine
    pub stands : Closes w.remainder w.standing
    pub after : w ≡ record { width = v.width; digits = v.digits; standing = w.standing; ticks = v.ticks + 1; remainder = w.remainder; verdict = v.verdict; engine = w.engine }

  -- also where no step can be taken or counted, which no list of calls brings about
  pub record DownTick (e : Refusal) : Type 0 where
    pub why : Uppermost (rows_at Tick) e ⊎ ((e ≡ Idle) × (Stopped k.ring k.working v.width v.digits v.remainder ⊎ (2 ^ 32 ≤ v.ticks + 1)) × Unfit (rows_at Tick))
    pub same : w ≡ v

  pub record Abandons : Type 0 where
    pub fits : Unfit (rows_at Abandon)
    pub after : w ≡ redrawn v.width v.digits Cleared v.verdict

-- the answer of a call by what it gives
abbrev pub answer : {A : Type 0} → (A → Answer) → Result A Refusal → Answer
answer f (Ok a) = f a
answer f (Err e) = Refused e

module _ {E C : Type 0} (k : Setting) (M : Machine E C) (v w : View E) where
  -- what the call answers, and the unit after it
  abbrev pub Tells : Call → Answer → Type 0
  Tells (Width n) a = (r : Result ℕ Refusal) × (a ≡ answer Classes r) × MatchResult r (Widens k M v w n) (Down k M v w (Width n))
  Tells (Put x y) a = (r : Result ℕ Refusal) × (a ≡ answer Held r) × MatchResult r (Puts k M v w x y) (DownPut k M v w x y)
  Tells (Take x y) a = (r : Result ℕ Refusal) × (a ≡ answer Held r) × MatchResult r (Takes k M v w x y) (Down k M v w (Take x y))
  Tells Check a = (r : Result Verdict Refusal) × (a ≡ answer Judged r) × MatchResult r (Checks k M v w) (Down k M v w Check)
  Tells (Load z) a = (r : Result (Unit {0}) Refusal) × (a ≡ answer (λ _. Loaded) r) × MatchResult r (λ _. Loads k M v w z) (Down k M v w (Load z))
  Tells Tick a = (r : Result (Element ℤ) Refusal) × (a ≡ answer Digit r) × MatchResult r (Ticks k M v w) (DownTick k M v w)
  Tells Abandon a = (r : Result (Unit {0}) Refusal) × (a ≡ answer (λ _. Abandoned) r) × MatchResult r (λ _. Abandons k M v w) (Down k M v w Abandon)
