-- What holds after every list of calls on a new unit, in terms of the calls and their answers alone. A history has the newest event first.
use Rattle.std.specs.Prelude.{◌≡◌, ℕ, Bool, true, false, cond, not, ◌⊎◌, List, [], ◌∷◌, ◌++◌, length, ℤ, Some, None, Option, MatchOption}
use Rattle.std.specs.Option.{unwrap_or, option_map}
use Rattle.ring.specs.Elem.{Elem, add, 𝟘}
use Rattle.ring.specs.System.{mul, pow, classes}
use Rattle.ring.specs.Expansion.{weighted, Expands}
use Rattle.ring.specs.Verdict.{Holds}
use Rattle.refusals.specs.declared.Refusal.{Refusal}
use Rattle.numbers.specs.Meaning.{short}
use Rattle.numbers.specs.declared.elements.Element.{Element}
use Rattle.digits.specs.Verdicts.{verdict_of}
use Rattle.digits.specs.declared.verdict.Verdict.{Verdict}
use Rattle.digits.specs.declared.verdict.Verdict.TheVariants as verdict
use Rattle.engine.specs.Meaning.{act, elem}
use Rattle.rules.specs.Lists.{alike, has, distinct, Number}
use Rattle.rules.specs.Views.{Setting, Machine, EngineRing, ring_of, View}
use Rattle.rules.specs.Table.{Row, rows, Uppermost, Unfit}
use Rattle.rules.specs.Told.{left, Closes}
use Rattle.rules.specs.declared.calls.Standing.{Standing}
use Rattle.rules.specs.declared.calls.Standing.TheVariants as standing
use Rattle.rules.specs.declared.calls.Answer.{Answer}
use Rattle.rules.specs.declared.calls.Answer.TheVariants.{Classes, Held, Judged, Loaded, Digit, Abandoned, Refused}
use Rattle.rules.specs.declared.calls.Call.{Call}
use Rattle.rules.specs.declared.calls.Call.TheVariants.{Width, Put, Take, Check, Load, Tick, Abandon}
use Rattle.rules.specs.declared.calls.Event.{Event}

abbrev pub History : Type 0
History = List Event

abbrev pub running : Standing → Bool
running standing.Draft = false
running standing.Cleared = false
running standing.Barred = false
running standing.Running = true

-- cleared or running
abbrev pub cleared : Standing → Bool
cleared standing.Draft = false
cleared standing.Cleared = true
cleared standing.Barred = false
cleared standing.Running = true

abbrev pub barred : Standing → Bool
barred standing.Draft = false
barred standing.Cleared = false
barred standing.Barred = true
barred standing.Running = false

-- how the unit stands after h: as the newest event says, or draft
abbrev pub stood : History → Standing
stood [] = standing.Draft
stood (e ∷ h) = e.standing

abbrev pub accepted : Answer → Bool
accepted (Classes n) = true
accepted (Held n) = true
accepted (Judged v) = true
accepted Loaded = true
accepted (Digit d) = true
accepted Abandoned = true
accepted (Refused r) = false

abbrev pub first_some : {A : Type 0} → Option A → Option A → Option A
first_some (Some a) b = Some a
first_some None b = b

-- the latest accepted call of which f tells something
abbrev pub latest : {A : Type 0} → (Event → Option A) → History → Option A
latest f [] = None
latest f (e ∷ h) = first_some (cond (accepted e.answer) (f e) None) (latest f h)

-- width: the last accepted one, or 1
abbrev pub width_of : Call → Option ℕ
width_of (Width w) = Some w
width_of (Put x y) = None
width_of (Take x y) = None
width_of Check = None
width_of (Load z) = None
width_of Tick = None
width_of Abandon = None

abbrev pub width : History → ℕ
width h = unwrap_or (latest (λ e. width_of e.call) h) 1

-- held: the digits whose last accepted put or take since the last accepted width is a put
abbrev pub says_of : Elem → Call → Option Bool
says_of d (Width w) = Some false
says_of d (Put x y) = cond (alike (elem x y) d) (Some true) None
says_of d (Take x y) = cond (alike (elem x y) d) (Some false) None
says_of d Check = None
says_of d (Load z) = None
says_of d Tick = None
says_of d Abandon = None

abbrev pub held : History → Elem → Bool
held h d = unwrap_or (latest (λ e. says_of d e.call) h) false

abbrev pub Holding : History → Elem → Type 0
Holding h d = held h d ≡ true

-- an accepted check's answer lasts until the next accepted width, put, take or check
abbrev pub verdict_in : Answer → Option Verdict
verdict_in (Classes n) = None
verdict_in (Held n) = None
verdict_in (Judged v) = Some v
verdict_in Loaded = None
verdict_in (Digit d) = None
verdict_in Abandoned = None
verdict_in (Refused r) = None

abbrev pub verdict_by : Answer → Call → Option (Option Verdict)
verdict_by a (Width w) = Some None
verdict_by a (Put x y) = Some None
verdict_by a (Take x y) = Some None
verdict_by a Check = Some (verdict_in a)
verdict_by a (Load z) = None
verdict_by a Tick = None
verdict_by a Abandon = None

abbrev pub lasting : History → Option Verdict
lasting h = unwrap_or (latest (λ e. verdict_by e.answer e.call) h) None

-- the last run: its element, the history before its load, the digits ticked since, the call that closed it
pub record Run : Type 0 where
  pub element : Elem
  pub before : History
  pub digits : List Elem
  pub closed : Option Call

-- it closes with the first event since, the load too, at which the unit does not stand running
abbrev pub closing : Event → Run → Run
closing e r = record {
  element = r.element;
  before = r.before;
  digits = r.digits;
  closed = first_some r.closed (cond (running e.standing) None (Some e.call));
}

abbrev pub digit_in : Answer → List Elem
digit_in (Classes n) = []
digit_in (Held n) = []
digit_in (Judged v) = []
digit_in Loaded = []
digit_in (Digit d) = short d ∷ []
digit_in Abandoned = []
digit_in (Refused r) = []

abbrev pub ticking : Event → Run → Run
ticking e r = record { element = r.element; before = r.before; digits = r.digits ++ digit_in e.answer; closed = r.closed }

abbrev pub starting : Event → History → Option Run → Call → Option Run
starting e h r (Width w) = r
starting e h r (Put x y) = r
starting e h r (Take x y) = r
starting e h r Check = r
starting e h r (Load z) = Some (record { element = short z; before = h; digits = []; closed = None })
starting e h r Tick = option_map (ticking e) r
starting e h r Abandon = r

abbrev pub run : History → Option Run
run [] = None
run (e ∷ h) = cond (accepted e.answer) (option_map (closing e) (starting e h (run h) e.call)) (run h)

abbrev pub is_abandon : Call → Bool
is_abandon (Width w) = false
is_abandon (Put x y) = false
is_abandon (Take x y) = false
is_abandon Check = false
is_abandon (Load z) = false
is_abandon Tick = false
is_abandon Abandon = true

-- the run has closed unabandoned
abbrev pub whole : Option Call → Bool
whole None = false
whole (Some c) = not (is_abandon c)

abbrev pub refusal_in : Answer → Option Refusal
refusal_in (Classes n) = None
refusal_in (Held n) = None
refusal_in (Judged v) = None
refusal_in Loaded = None
refusal_in (Digit d) = None
refusal_in Abandoned = None
refusal_in (Refused r) = Some r

module _ (k : Setting) where
  -- es is an expansion of the run's element over the digits and the width at its load
  abbrev pub RunExpands : Run → List Elem → Type 0
  RunExpands r es = Expands k.ring (width r.before) (Holding r.before) r.element es

  -- ds begin the only expansion of the run's element
  pub record Begins (r : Run) (ds : List Elem) : Type 0 where
    pub rest : List Elem
    pub is : RunExpands r (ds ++ rest)
    pub only : (es : List Elem) → RunExpands r es → es ≡ ds ++ rest

  -- d goes on with the digits of the run r, and the run closes where they are then all
  pub record Goes (r : Run) (d : Elem) (s : Standing) : Type 0 where
    pub begins : Begins r (r.digits ++ d ∷ [])
    pub leaves : ((s ≡ standing.Cleared) × RunExpands r (r.digits ++ d ∷ [])) ⊎ ((s ≡ standing.Running) × ¬ (RunExpands r (r.digits ++ d ∷ [])))

  -- what the accepted event e answers after h, and how it leaves the unit
  abbrev pub Gives : History → Event → Call → Type 0
  Gives h e (Width n) = (e.answer ≡ Classes (classes k.ring.p n)) × (e.standing ≡ standing.Draft)
  Gives h e (Put x y) = (j : ℕ) × (e.answer ≡ Held j) × Number (held (e ∷ h)) j × (e.standing ≡ standing.Draft)
  Gives h e (Take x y) = (j : ℕ) × (e.answer ≡ Held j) × Number (held (e ∷ h)) j × (e.standing ≡ standing.Draft)
  Gives h e Check = (r : Verdict) × (e.answer ≡ Judged r) × Holds k.ring (width h) (Holding h) (verdict_of r) × (e.standing ≡ left r)
  Gives h e (Load z) = (e.answer ≡ Loaded) × Closes (short z) e.standing
  Gives h e Tick = (d : Element ℤ) × (e.answer ≡ Digit d) × MatchOption (run h) ⊥ (λ r. Goes r (short d) e.standing)
  Gives h e Abandon = (e.answer ≡ Abandoned) × (e.standing ≡ standing.Cleared)

  -- m is the ring of the engine
  module _ (m : EngineRing) where
    -- the rows for a call after h
    abbrev pub rows_after : History → Call → List Row
    rows_after h c = rows k m (width h) (Holding h) (stood h) c

    -- e after h: refused with the uppermost row that fits, and accepted where none fits
    abbrev pub Answered : History → Event → Type 0
    Answered h e = MatchOption (refusal_in e.answer)
        (Unfit (rows_after h e.call) × Gives h e e.call)
        (λ r. Uppermost (rows_after h e.call) r × (e.standing ≡ stood h))

    -- every event of the history
    abbrev pub Answers : History → Type 0
    Answers [] = Unit {0}
    Answers (e ∷ h) = Answered h e × Answers h

abbrev pub clears : Option Verdict → Bool
clears None = false
clears (Some verdict.Cleared) = true
clears (Some (verdict.Barred first lead period)) = false

abbrev pub bars : Option Verdict → Bool
bars None = false
bars (Some verdict.Cleared) = false
bars (Some (verdict.Barred first lead period)) = true

module _ {E C : Type 0} (k : Setting) (M : Machine E C) where
  -- what holds of the last run r at the unit v
  pub record Ran (r : Run) (v : View E) : Type 0 where
    pub sum : r.element ≡ add (weighted k.ring r.digits) (mul k.ring (pow k.ring k.ring.β v.ticks) v.remainder)
    pub told : v.ticks ≡ length r.digits
    pub begins : Begins k r r.digits
    pub all : whole r.closed ≡ true → RunExpands k r r.digits
    pub closes : RunExpands k r r.digits → whole r.closed ≡ true
    pub total : M.total_of v.engine ≡ act (M.meaning v.engine) (weighted k.ring r.digits) (M.meaning v.engine).start
    pub done : whole r.closed ≡ true → M.total_of v.engine ≡ act (M.meaning v.engine) r.element (M.meaning v.engine).start

  -- what holds of a unit that was never loaded
  pub record Idle (e : E) (v : View E) : Type 0 where
    pub ticks : v.ticks ≡ 0
    pub remainder : v.remainder ≡ 𝟘
    pub engine : v.engine ≡ e

  -- after the history h of a new unit with the engine e, the unit is as v
  pub record After (e : E) (h : History) (v : View E) : Type 0 where
    pub answers : Answers k (ring_of (M.meaning e)) h
    pub stands : v.standing ≡ stood h
    pub wide : v.width ≡ width h
    pub holds : (d : Elem) → has v.digits d ≡ held h d
    pub once : distinct v.digits ≡ true
    pub clear : cleared v.standing ≡ clears (lasting h)
    pub bar : barred v.standing ≡ bars (lasting h)
    pub verdict : v.verdict ≡ lasting h
    pub meaning : M.meaning v.engine ≡ M.meaning e
    pub ran : MatchOption (run h) (Idle e v) (λ r. Ran r v)
