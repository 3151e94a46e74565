-- An accepted check keeps the invariant.
use Rattle.std.proofs.Common.{◌≡◌, false, ◌∷◌, Some, sym, refl, subst}
use Rattle.std.specs.List.{ContainsAt as Has}
use Rattle.ring.specs.Verdict.{Holds}
use Rattle.ring.specs.Class.{Full}
use Rattle.digits.specs.Verdicts.{verdict_of}
use Rattle.digits.specs.declared.verdict.Verdict.{Verdict}
use Rattle.digits.specs.declared.verdict.Verdict.TheVariants as verdict
use Rattle.rules.specs.Views.{Setting, Machine, View}
use Rattle.rules.specs.Told.{left, Checks}
use Rattle.rules.specs.History.{History, running, cleared, barred, width, Holding, clears, bars}
use Rattle.rules.specs.Comes.{event}
use Rattle.rules.specs.Theorems.{Sound}
use Rattle.rules.specs.declared.calls.Answer.TheVariants.{Judged}
use Rattle.rules.specs.declared.calls.Call.TheVariants.{Check}
use Rattle.rules.proofs.Sets.{holds_over}
use Rattle.rules.proofs.Digits.{full_since}
use Rattle.rules.proofs.Standings.{idle_of}
use Rattle.rules.proofs.Invariant.{Stands, Inv, to_held, from_held, unfit, still}

clear_left : (r : Verdict) → cleared (left r) ≡ clears (Some r)
clear_left verdict.Cleared = refl
clear_left (verdict.Barred f l p) = refl

bar_left : (r : Verdict) → barred (left r) ≡ bars (Some r)
bar_left verdict.Cleared = refl
bar_left (verdict.Barred f l p) = refl

idle_left : (r : Verdict) → running (left r) ≡ false
idle_left verdict.Cleared = refl
idle_left (verdict.Barred f l p) = refl

module _ {E C : Type 0} (k : Setting) (M : Machine E C) (sound : Sound k) (e : E) (h : History) (v : View E) (i : Inv k M e h v) where
  pub check_keeps : (r : Verdict) (w : View E) → Checks k M v w r → Inv k M e (event Check (Judged r) w.standing ∷ h) w
  check_keeps r w t = subst (λ (u : View E). Inv k M e (event Check (Judged r) u.standing ∷ h) u) (sym t.after) (record {
    answers = ((unfit k M e h v i Check t.fits, (r, refl, told, refl)), i.answers);
    stands = refl;
    wide = i.wide;
    holds = i.holds;
    once = i.once;
    clear = clear_left r;
    bar = bar_left r;
    verdict = refl;
    meaning = i.meaning;
    some = i.some;
    most = i.most;
    ranged = i.ranged;
    digits = i.digits;
    ready = judged r t.verdict;
    going = still k M e h v i (event Check (Judged r) (left r)) v.width v.digits (left r) (Some r) (idle_of v.standing t.fits.0) (idle_left r);
  })
    where
      told : Holds k.ring (width h) (Holding h) (verdict_of r)
      told = subst (λ n. Holds k.ring n (Holding h) (verdict_of r)) i.wide (holds_over k.ring v.width (Has v.digits) (Holding h) (to_held k M e h v i) (from_held k M e h v i) (verdict_of r) t.verdict)

      full : Full k.ring v.width (Has v.digits)
      full = full_since k.ring sound.lawful v.digits i.once v.width i.some i.digits t.fits.1.0

      judged : (q : Verdict) → Holds k.ring v.width (Has v.digits) (verdict_of q) → Stands k.ring v.width v.digits v.remainder (left q)
      judged verdict.Cleared x = record { full = full; all = x }
      judged (verdict.Barred f l p) x = tt
