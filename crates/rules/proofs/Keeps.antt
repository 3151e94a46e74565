-- Every call keeps the invariant, whatever it answers; so the theorem holds after every list of calls.
use Rattle.std.proofs.Common.{◌≡◌, ℕ, [], ◌∷◌, ℤ, Ok, Err, Result, sym, refl, subst, ⊎_elim, MatchResult}
use Rattle.refusals.specs.declared.Refusal.{Refusal}
use Rattle.numbers.specs.declared.elements.Element.{Element}
use Rattle.digits.specs.declared.verdict.Verdict.{Verdict}
use Rattle.engine.specs.Meaning.{LawfulMeaning}
use Rattle.rules.specs.Views.{Setting, Machine, View}
use Rattle.rules.specs.Told.{Down, DownPut, DownTick, Widens, Puts, Takes, Checks, Loads, Ticks, Abandons, answer, Tells}
use Rattle.rules.specs.History.{History, After}
use Rattle.rules.specs.Comes.{event, Comes, Throughout}
use Rattle.rules.specs.Theorems.{Sound, HoldsThroughout, Keeps as AllKeep}
use Rattle.rules.specs.declared.calls.Answer.{Answer}
use Rattle.rules.specs.declared.calls.Answer.TheVariants.{Classes, Held, Judged, Loaded, Digit, Abandoned}
use Rattle.rules.specs.declared.calls.Call.{Call}
use Rattle.rules.specs.declared.calls.Call.TheVariants.{Width, Put, Take, Check, Load, Tick, Abandon}
use Rattle.rules.proofs.Standings.{on_of}
use Rattle.rules.proofs.Invariant.{Inv, after, start_inv}
use Rattle.rules.proofs.KeepsRefused.{refused_keeps}
use Rattle.rules.proofs.KeepsWidth.{width_keeps}
use Rattle.rules.proofs.KeepsPut.{put_keeps, never_crowded}
use Rattle.rules.proofs.KeepsTake.{take_keeps}
use Rattle.rules.proofs.KeepsCheck.{check_keeps}
use Rattle.rules.proofs.KeepsLoad.{load_keeps}
use Rattle.rules.proofs.KeepsTick.{tick_keeps, never_stuck}
use Rattle.rules.proofs.KeepsAbandon.{abandon_keeps}

module _ {E C : Type 0} (k : Setting) (M : Machine E C) (sound : Sound k) (lawful : (x : E) → LawfulMeaning (M.meaning x)) (e : E) where
  module _ (h : History) (v : View E) (i : Inv k M e h v) where
    answered : (c : Call) (a x : Answer) (w : View E) → a ≡ x → Inv k M e (event c x w.standing ∷ h) w → Inv k M e (event c a w.standing ∷ h) w
    answered c a x w q = subst (λ y. Inv k M e (event c y w.standing ∷ h) w) (sym q)

    call_keeps : (c : Call) (a : Answer) (w : View E) → Tells k M v w c a → Inv k M e (event c a w.standing ∷ h) w
    call_keeps (Width n) a w t = answered (Width n) a _ w t.1 (go t.0 t.2)
      where
        go : (r : Result ℕ Refusal) → MatchResult r (Widens k M v w n) (Down k M v w (Width n)) → Inv k M e (event (Width n) (answer Classes r) w.standing ∷ h) w
        go (Ok j) x = width_keeps k M e h v i n j w x
        go (Err y) x = refused_keeps k M e h v i (Width n) y w x.why x.same
    call_keeps (Put dx dy) a w t = answered (Put dx dy) a _ w t.1 (go t.0 t.2)
      where
        go : (r : Result ℕ Refusal) → MatchResult r (Puts k M v w dx dy) (DownPut k M v w dx dy) → Inv k M e (event (Put dx dy) (answer Held r) w.standing ∷ h) w
        go (Ok j) x = put_keeps k M e h v i dx dy j w x
        go (Err y) x = ⊎_elim (λ z. refused_keeps k M e h v i (Put dx dy) y w z x.same) (λ z. absurd (never_crowded k M e h v i sound dx dy z.2 z.1)) x.why
    call_keeps (Take dx dy) a w t = answered (Take dx dy) a _ w t.1 (go t.0 t.2)
      where
        go : (r : Result ℕ Refusal) → MatchResult r (Takes k M v w dx dy) (Down k M v w (Take dx dy)) → Inv k M e (event (Take dx dy) (answer Held r) w.standing ∷ h) w
        go (Ok j) x = take_keeps k M e h v i dx dy j w x
        go (Err y) x = refused_keeps k M e h v i (Take dx dy) y w x.why x.same
    call_keeps Check a w t = answered Check a _ w t.1 (go t.0 t.2)
      where
        go : (r : Result Verdict Refusal) → MatchResult r (Checks k M v w) (Down k M v w Check) → Inv k M e (event Check (answer Judged r) w.standing ∷ h) w
        go (Ok j) x = check_keeps k M sound e h v i j w x
        go (Err y) x = refused_keeps k M e h v i Check y w x.why x.same
    call_keeps (Load z) a w t = answered (Load z) a _ w t.1 (go t.0 t.2)
      where
        go : (r : Result (Unit {0}) Refusal) → MatchResult r (λ _. Loads k M v w z) (Down k M v w (Load z)) → Inv k M e (event (Load z) (answer (λ _. Loaded) r) w.standing ∷ h) w
        go (Ok j) x = load_keeps k M sound lawful e h v i z w x
        go (Err y) x = refused_keeps k M e h v i (Load z) y w x.why x.same
    call_keeps Tick a w t = answered Tick a _ w t.1 (go t.0 t.2)
      where
        go : (r : Result (Element ℤ) Refusal) → MatchResult r (Ticks k M v w) (DownTick k M v w) → Inv k M e (event Tick (answer Digit r) w.standing ∷ h) w
        go (Ok j) x = tick_keeps k M sound lawful e h v i j w x
        go (Err y) x = ⊎_elim (λ z. refused_keeps k M e h v i Tick y w z x.same) (λ z. absurd (never_stuck k M sound lawful e h v i (on_of v.standing z.2.0) z.1)) x.why
    call_keeps Abandon a w t = answered Abandon a _ w t.1 (go t.0 t.2)
      where
        go : (r : Result (Unit {0}) Refusal) → MatchResult r (λ _. Abandons k M v w) (Down k M v w Abandon) → Inv k M e (event Abandon (answer (λ _. Abandoned) r) w.standing ∷ h) w
        go (Ok j) x = abandon_keeps k M e h v i w x
        go (Err y) x = refused_keeps k M e h v i Abandon y w x.why x.same

  kept : (h : History) (v : View E) → Comes k M e h v → Inv k M e h v
  kept [] v c = subst (Inv k M e []) (sym c) (start_inv k M sound e)
  kept (x ∷ h) w c = subst (λ s. Inv k M e (event x.call x.answer s ∷ h) w) (sym c.3) (call_keeps h c.0 (kept h c.0 c.1) x.call x.answer w c.2)

  -- after every list of calls
  pub comes_after : (h : History) (v : View E) → Comes k M e h v → After k M e h v
  comes_after h v c = after k M sound e h v (kept h v c)

  -- and after each of the shorter ones
  pub comes_throughout : (h : History) (v : View E) → Comes k M e h v → Throughout k M e h v
  comes_throughout [] v c = comes_after [] v c
  comes_throughout (x ∷ h) v c = (comes_after (x ∷ h) v c, (c.0, comes_throughout h c.0 c.1))

pub holds_throughout : {E C : Type 0} → HoldsThroughout E C
holds_throughout k M sound lawful e h v c = comes_throughout k M sound lawful e h v c

-- after one call more
pub keeps : {E C : Type 0} → AllKeep E C
keeps k M sound lawful v w c a t e h x =
    let y : Comes k M e (event c a w.standing ∷ h) w = (v, x, t, refl) in
    (y, comes_after k M sound lawful e (event c a w.standing ∷ h) w y)
