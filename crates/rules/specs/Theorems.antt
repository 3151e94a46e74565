-- What is proved of every list of calls on a unit, and of every two histories of the same calls.
use Rattle.std.specs.Prelude.{◌≡◌, ◌*◌, ◌^◌, ◌≤◌, map, length}
use Rattle.ring.specs.Elem.{Elem}
use Rattle.ring.specs.System.{Lawful, Widths}
use Rattle.engine.specs.Meaning.{LawfulMeaning}
use Rattle.rules.specs.Lists.{has}
use Rattle.rules.specs.Views.{Setting, Machine, EngineRing, View}
use Rattle.rules.specs.Told.{Tells}
use Rattle.rules.specs.History.{History, Answers, After}
use Rattle.rules.specs.Comes.{Comes, Throughout, Kept}
use Rattle.rules.specs.declared.calls.Answer.{Answer}
use Rattle.rules.specs.declared.calls.Call.{Call}
use Rattle.rules.specs.declared.calls.Event.{Event}

-- what a number system and its kind show of their numbers
pub record Sound (k : Setting) : Type 0 where
  pub lawful : Lawful k.ring
  pub widths : Widths k.ring.p k.widest
  pub enough : 1024 ≤ k.loading
  pub room : 16 * k.loading ≤ k.working
  pub countable : k.loading ≤ 2 ^ 56

-- a unit that comes from a history by calls is as it should be after it, and was so after each shorter one
abbrev pub HoldsThroughout : (E C : Type 0) → Type 0
HoldsThroughout E C = (k : Setting) (M : Machine E C) → Sound k → ((x : E) → LawfulMeaning (M.meaning x)) →
    (e : E) (h : History) (v : View E) → Comes k M e h v → Throughout k M e h v

-- and every further call keeps it so
abbrev pub Keeps : (E C : Type 0) → Type 0
Keeps E C = (k : Setting) (M : Machine E C) → Sound k → ((x : E) → LawfulMeaning (M.meaning x)) →
    (v w : View E) (c : Call) (a : Answer) → Tells k M v w c a → Kept k M v w c a

-- the answers fix the log: two histories of the same calls are the same
abbrev pub Agree : Type 0
Agree = (k : Setting) → Lawful k.ring → (m : EngineRing) (g h : History) → Answers k m g → Answers k m h →
    map (λ (x : Event). x.call) g ≡ map (λ (x : Event). x.call) h → g ≡ h

-- two units tell the same
pub record Alike {E F C : Type 0} (M : Machine E C) (N : Machine F C) (v : View E) (w : View F) : Type 0 where
  pub width : v.width ≡ w.width
  pub digits : (d : Elem) → has v.digits d ≡ has w.digits d
  pub number : length v.digits ≡ length w.digits
  pub standing : v.standing ≡ w.standing
  pub ticks : v.ticks ≡ w.ticks
  pub remainder : v.remainder ≡ w.remainder
  pub verdict : v.verdict ≡ w.verdict
  pub total : M.total_of v.engine ≡ N.total_of w.engine

-- two units over the same system, and over engines that mean the same and have the same total, tell the same after the same calls, and have the same history
abbrev pub UnitsAgree : (E F C : Type 0) → Type 0
UnitsAgree E F C = (k : Setting) → Lawful k.ring → (M : Machine E C) (N : Machine F C) (e : E) (f : F) → M.meaning e ≡ N.meaning f → M.total_of e ≡ N.total_of f →
    (g h : History) (v : View E) (w : View F) → After k M e g v → After k N f h w →
    map (λ (x : Event). x.call) g ≡ map (λ (x : Event). x.call) h → (g ≡ h) × Alike M N v w
