-- An accepted take keeps the invariant.
use Rattle.std.proofs.Common.{◌≡◌, ℕ, Bool, true, false, cond, ◌∷◌, length, ℤ, Some, None, Option, unwrap_or, sym, refl, ◌∙◌, subst, arith}
use Rattle.std.proofs.lemmas.Bool.{both_ways}
use Rattle.ring.specs.Elem.{Elem}
use Rattle.engine.specs.Meaning.{elem}
use Rattle.rules.specs.Lists.{alike, has, without}
use Rattle.rules.specs.Views.{Setting, Machine, View}
use Rattle.rules.specs.Told.{Takes}
use Rattle.rules.specs.History.{History, first_some, latest, says_of, held}
use Rattle.rules.specs.Comes.{event}
use Rattle.rules.specs.declared.calls.Standing.TheVariants as standing
use Rattle.rules.specs.declared.calls.Answer.TheVariants.{Held}
use Rattle.rules.specs.declared.calls.Call.TheVariants.{Take}
use Rattle.rules.proofs.Lists.{has_without, distinct_without, length_without, true_since, has_listed}
use Rattle.rules.proofs.Digits.{kept, digits_without}
use Rattle.rules.proofs.Standings.{idle_of}
use Rattle.rules.proofs.Invariant.{Inv, unfit, still}

module _ {E C : Type 0} (k : Setting) (M : Machine E C) (e : E) (h : History) (v : View E) (i : Inv k M e h v) where
  pub take_keeps : (x y : ℤ) (j : ℕ) (w : View E) → Takes k M v w x y j → Inv k M e (event (Take x y) (Held j) w.standing ∷ h) w
  take_keeps x y j w t = subst (λ (u : View E). Inv k M e (event (Take x y) (Held j) u.standing ∷ h) u) (sym t.after) (record {
    answers = ((unfit k M e h v i (Take x y) t.fits, (j, refl, (without v.digits (elem x y), distinct_without v.digits (elem x y) i.once, holds, count), refl)), i.answers);
    stands = refl;
    wide = i.wide;
    holds = holds;
    once = distinct_without v.digits (elem x y) i.once;
    clear = refl;
    bar = refl;
    verdict = refl;
    meaning = i.meaning;
    some = i.some;
    most = i.most;
    ranged = λ d m. i.ranged d (kept v.digits (elem x y) d m);
    digits = digits_without k.ring v.width v.digits (elem x y) i.digits;
    ready = tt;
    going = still k M e h v i (event (Take x y) (Held j) standing.Draft) v.width (without v.digits (elem x y)) standing.Draft None (idle_of v.standing t.fits.0) refl;
  })
    where
      said : (b u : Bool) (o : Option Bool) → u ≡ unwrap_or o false → cond b false u ≡ unwrap_or (first_some (cond b (Some false) None) o) false
      said true u o q = refl
      said false u o q = q

      holds : (d : Elem) → has (without v.digits (elem x y)) d ≡ held (event (Take x y) (Held j) standing.Draft ∷ h) d
      holds d = has_without v.digits (elem x y) d i.once ∙ said (alike (elem x y) d) (has v.digits d) (latest (λ q. says_of d q.call) h) (i.holds d)

      there : has v.digits (elem x y) ≡ true
      there = true_since (has v.digits (elem x y)) (λ q. t.fits.1.0 (λ m. both_ways (has v.digits (elem x y)) q (has_listed v.digits (elem x y) m)))

      count : j ≡ length (without v.digits (elem x y))
      count = let l = length_without v.digits (elem x y) there in omega (arith, t.number)
