-- An accepted width keeps the invariant.
use Rattle.std.proofs.Common.{◌≡◌, ℕ, zero, suc, ◌<◌, ◌≤◌, [], ◌∷◌, None, sym, refl, ap, subst, inl, inr, ⊎_elim, arith}
use Rattle.std.proofs.lemmas.Bool.{cases_lt}
use Rattle.rules.specs.Views.{Setting, Machine, View}
use Rattle.rules.specs.Told.{Widens}
use Rattle.rules.specs.History.{History}
use Rattle.rules.specs.Comes.{event}
use Rattle.rules.specs.declared.calls.Standing.TheVariants as standing
use Rattle.rules.specs.declared.calls.Answer.TheVariants.{Classes}
use Rattle.rules.specs.declared.calls.Call.TheVariants.{Width}
use Rattle.rules.proofs.Lists.{has_listed}
use Rattle.rules.proofs.Digits.{no_digits}
use Rattle.rules.proofs.Standings.{false_true, idle_of}
use Rattle.rules.proofs.Invariant.{Inv, unfit, still}

module _ {E C : Type 0} (k : Setting) (M : Machine E C) (e : E) (h : History) (v : View E) (i : Inv k M e h v) where
  pub width_keeps : (n c : ℕ) (w : View E) → Widens k M v w n c → Inv k M e (event (Width n) (Classes c) w.standing ∷ h) w
  width_keeps n c w t = subst (λ (u : View E). Inv k M e (event (Width n) (Classes c) u.standing ∷ h) u) (sym t.after) (record {
    answers = ((unfit k M e h v i (Width n) t.fits, (ap Classes t.number, refl)), i.answers);
    stands = refl;
    wide = refl;
    holds = λ d. refl;
    once = refl;
    clear = refl;
    bar = refl;
    verdict = refl;
    meaning = i.meaning;
    some = low n (λ q. t.fits.1.0 (inl q));
    most = high (λ l. t.fits.1.0 (inr l));
    ranged = λ d m. false_true (has_listed [] d m);
    digits = no_digits k.ring n;
    ready = tt;
    going = still k M e h v i (event (Width n) (Classes c) standing.Draft) n [] standing.Draft None (idle_of v.standing t.fits.0) refl;
  })
    where
      low : (j : ℕ) → (j ≡ 0 → ⊥) → 1 ≤ j
      low zero f = absurd (f refl)
      low (suc j) f = omega arith

      high : (k.widest < n → ⊥) → n ≤ k.widest
      high f = ⊎_elim (λ l. absurd (f l)) (λ l. l) (cases_lt k.widest n)
