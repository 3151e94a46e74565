-- What the answers to calls have in common.
use Rattle.std.proofs.Common.{◌≡◌, ℕ, ◌≤◌, Bool, true, false, cond, List, [], ◌∷◌, length, ℤ, Some, None, Ok, Err, Option, Result, sym, refl, subst, arith, MatchOption, MatchResult}
use Rattle.ring.specs.Elem.{Elem}
use Rattle.numbers.specs.Meaning.{short}
use Rattle.numbers.specs.declared.elements.Element.{Element}
use Rattle.refusals.specs.declared.Refusal.{Refusal}
use Rattle.digits.specs.declared.verdict.Verdict.{Verdict}
use Rattle.rules.specs.Views.{Setting, Machine, EngineRing, View}
use Rattle.rules.specs.Told.{Puts, Takes, Down, DownPut, answer, Tells}
use Rattle.rules.specs.History.{History, accepted, Answered}
use Rattle.rules.specs.Comes.{event}
use Rattle.engine.specs.Meaning.{Meaning}
use Rattle.engine.specs.declared.Point.{Point}
use Rattle.rules.specs.declared.calls.Event.{Event}
use Rattle.rules.specs.declared.calls.Standing.{Standing}
use Rattle.rules.specs.declared.calls.Answer.{Answer}
use Rattle.rules.specs.declared.calls.Answer.TheVariants as answers
use Rattle.rules.specs.declared.calls.Call.{Call}
use Rattle.rules.specs.declared.calls.Call.TheVariants as call
use Rattle.replies.specs.Reply.{Counted}
use Rattle.transcript.specs.Transcript.{ticked, loaded, Runs, Follows}

-- the number of digits held that a call answers is small
module _ {E C : Type 0} (k : Setting) (M : Machine E C) (v w : View E) (few : length v.digits ≤ 128) where
  pub counted : (c : Call) (a : Answer) → Tells k M v w c a → Counted a
  counted (call.Width n) a t = subst Counted (sym t.1) (go t.0)
    where
      go : (r : Result ℕ Refusal) → Counted (answer answers.Classes r)
      go (Ok j) = tt
      go (Err y) = tt
  counted (call.Put x y) a t = subst Counted (sym t.1) (go t.0 t.2)
    where
      go : (r : Result ℕ Refusal) → MatchResult r (Puts k M v w x y) (DownPut k M v w x y) → Counted (answer answers.Held r)
      go (Ok j) p = omega (arith, p.number)
      go (Err y) p = tt
  counted (call.Take x y) a t = subst Counted (sym t.1) (go t.0 t.2)
    where
      go : (r : Result ℕ Refusal) → MatchResult r (Takes k M v w x y) (Down k M v w (call.Take x y)) → Counted (answer answers.Held r)
      go (Ok j) p = omega (arith, p.number)
      go (Err y) p = tt
  counted call.Check a t = subst Counted (sym t.1) (go t.0)
    where
      go : (r : Result Verdict Refusal) → Counted (answer answers.Judged r)
      go (Ok j) = tt
      go (Err y) = tt
  counted (call.Load z) a t = subst Counted (sym t.1) (go t.0)
    where
      go : (r : Result (Unit {0}) Refusal) → Counted (answer (λ _. answers.Loaded) r)
      go (Ok j) = tt
      go (Err y) = tt
  counted call.Tick a t = subst Counted (sym t.1) (go t.0)
    where
      go : (r : Result (Element ℤ) Refusal) → Counted (answer answers.Digit r)
      go (Ok j) = tt
      go (Err y) = tt
  counted call.Abandon a t = subst Counted (sym t.1) (go t.0)
    where
      go : (r : Result (Unit {0}) Refusal) → Counted (answer (λ _. answers.Abandoned) r)
      go (Ok j) = tt
      go (Err y) = tt

module _ (k : Setting) (m : EngineRing) (h : History) (s : Standing) where
  loads_element : (c : Call) → Answered k m h (event c answers.Loaded s) → (z : Elem) × (loaded (event c answers.Loaded s) ≡ Some z)
  loads_element (call.Width n) x = absurd (let y = x.1.0 in let z : ◌≡◌ {A = ℕ} 0 1 = cc in omega arith)
  loads_element (call.Put a b) x = absurd (let y = x.1.1 in let z : ◌≡◌ {A = ℕ} 0 1 = cc in omega arith)
  loads_element (call.Take a b) x = absurd (let y = x.1.1 in let z : ◌≡◌ {A = ℕ} 0 1 = cc in omega arith)
  loads_element call.Check x = absurd (let y = x.1.1 in let z : ◌≡◌ {A = ℕ} 0 1 = cc in omega arith)
  loads_element (call.Load z) x = (short z, refl)
  loads_element call.Tick x = absurd (let y = x.1.1 in let z : ◌≡◌ {A = ℕ} 0 1 = cc in omega arith)
  loads_element call.Abandon x = absurd (let y = x.1.0 in let z : ◌≡◌ {A = ℕ} 0 1 = cc in omega arith)

  -- an event that is answered as loaded loads an element
  pub loads_some : (c : Call) (a : Answer) → a ≡ answers.Loaded → Answered k m h (event c a s) → (z : Elem) × (loaded (event c a s) ≡ Some z)
  loads_some c a is x = subst (λ b. (z : Elem) × (loaded (event c b s) ≡ Some z)) (sym is) (loads_element c (subst (λ b. Answered k m h (event c b s)) is x))

  none_either : (b : Bool) → ◌≡◌ {A = Option Elem} (cond b None None) None
  none_either true = refl
  none_either false = refl

  -- and no other does
  pub loads_nothing : (c : Call) (a : Answer) → Answered k m h (event c a s) → (a ≡ answers.Loaded → ⊥) → loaded (event c a s) ≡ None
  loads_nothing (call.Width n) a x not = none_either (accepted a)
  loads_nothing (call.Put p q) a x not = none_either (accepted a)
  loads_nothing (call.Take p q) a x not = none_either (accepted a)
  loads_nothing call.Check a x not = none_either (accepted a)
  loads_nothing (call.Load z) (answers.Classes n) x not = absurd (not x.1.0)
  loads_nothing (call.Load z) (answers.Held n) x not = absurd (not x.1.0)
  loads_nothing (call.Load z) (answers.Judged n) x not = absurd (not x.1.0)
  loads_nothing (call.Load z) answers.Loaded x not = absurd (not refl)
  loads_nothing (call.Load z) (answers.Digit n) x not = absurd (not x.1.0)
  loads_nothing (call.Load z) answers.Abandoned x not = absurd (not x.1.0)
  loads_nothing (call.Load z) (answers.Refused n) x not = refl
  loads_nothing call.Tick a x not = none_either (accepted a)
  loads_nothing call.Abandon a x not = none_either (accepted a)

-- what comes behind an answer: the run of the element that it loads, or nothing
module _ (k : Setting) (m : Meaning Point) (h : History) (x : Event) where
  pub follows_run : (z : Elem) (ds : List Elem) (text : List ℕ) → loaded x ≡ Some z → Runs k m h z ds text → Follows k m h x (ticked ds (x ∷ h)) text
  follows_run z ds text is runs = subst (λ o. MatchOption o ((ticked ds (x ∷ h) ≡ x ∷ h) × (text ≡ [])) (λ y. (es : List Elem) × Runs k m h y es text × (ticked ds (x ∷ h) ≡ ticked es (x ∷ h)))) (sym is) (ds, runs, refl)

  pub follows_nothing : loaded x ≡ None → Follows k m h x (x ∷ h) []
  follows_nothing is =
      let none : List ℕ = [] in
      subst (λ o. MatchOption o ((x ∷ h ≡ x ∷ h) × (none ≡ [])) (λ y. (es : List Elem) × Runs k m h y es none × (x ∷ h ≡ ticked es (x ∷ h)))) (sym is) (refl, refl)
