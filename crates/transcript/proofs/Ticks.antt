-- One tick of a unit, by what it tells.
use Rattle.std.proofs.Common.{◌≡◌, ℕ, ◌+◌, true, [], ◌∷◌, ℤ, Ok, Err, Result, sym, refl, ap, subst, ⊎_elim, arith, MatchResult}
use Rattle.ring.specs.Elem.{Elem}
use Rattle.refusals.specs.declared.Refusal.{Refusal}
use Rattle.numbers.specs.declared.elements.Element.{Element}
use Rattle.rules.specs.Views.{Setting, Machine, EngineRing, View}
use Rattle.rules.specs.Told.{Closes, Ticks, DownTick, answer, Tells}
use Rattle.rules.specs.History.{History, cleared, stood, Answered}
use Rattle.rules.specs.Comes.{event, Comes}
use Rattle.rules.specs.declared.calls.Standing.{Standing}
use Rattle.rules.specs.declared.calls.Standing.TheVariants as standing
use Rattle.rules.specs.declared.calls.Answer.{Answer}
use Rattle.rules.specs.declared.calls.Answer.TheVariants.{Classes, Held, Judged, Loaded, Digit, Abandoned, Refused}
use Rattle.rules.specs.declared.calls.Call.TheVariants as call

-- a load or a tick leaves the unit cleared or running
pub closes_cleared : (z : Elem) (s : Standing) → Closes z s → cleared s ≡ true
closes_cleared z s c = ⊎_elim (λ h. ap cleared h.1) (λ h. ap cleared h.1) c

-- a tick that is asked for while a run is on answers a digit
pub tick_digit : (k : Setting) (m : EngineRing) (h : History) (s : Standing) (a : Answer) → Answered k m h (event call.Tick a s) → stood h ≡ standing.Running → (d : Element ℤ) × (a ≡ Digit d)
tick_digit k m h s (Classes n) x on = (x.1.0, x.1.1)
tick_digit k m h s (Held n) x on = (x.1.0, x.1.1)
tick_digit k m h s (Judged v) x on = (x.1.0, x.1.1)
tick_digit k m h s Loaded x on = (x.1.0, x.1.1)
tick_digit k m h s (Digit d) x on = (d, refl)
tick_digit k m h s Abandoned x on = (x.1.0, x.1.1)
tick_digit k m h s (Refused r) x on = absurd (⊎_elim (λ y. y.0 on) (λ y. y.1) x.0)

-- a unit stands as the newest event of its history says
pub comes_stands : {E C : Type 0} (k : Setting) (M : Machine E C) (e : E) (h : History) (v : View E) → Comes k M e h v → v.standing ≡ stood h
comes_stands k M e [] v c = ap (λ u. u.standing) c
comes_stands k M e (x ∷ h) v c = sym c.3

module _ {E C : Type 0} (k : Setting) (M : Machine E C) (v w : View E) where
  -- what a tick that answers a digit tells
  pub ticks_told : (d : Element ℤ) → Tells k M v w call.Tick (Digit d) → Ticks k M v w d
  ticks_told d t = go t.0 t.1 t.2
    where
      go : (r : Result (Element ℤ) Refusal) → Digit d ≡ answer Digit r → MatchResult r (Ticks k M v w) (DownTick k M v w) → Ticks k M v w d
      go (Ok x) e y = let same : x ≡ d = cc in subst (Ticks k M v w) same y
      go (Err x) e y = absurd (let z : ◌≡◌ {A = ℕ} 0 1 = cc in omega arith)

  pub tick_counts : (d : Element ℤ) → Tells k M v w call.Tick (Digit d) → w.ticks ≡ v.ticks + 1
  tick_counts d t = ap (λ (u : View E). u.ticks) (ticks_told d t).after

  pub tick_leaves : (d : Element ℤ) → Tells k M v w call.Tick (Digit d) → cleared w.standing ≡ true
  tick_leaves d t = closes_cleared w.remainder w.standing (ticks_told d t).stands
