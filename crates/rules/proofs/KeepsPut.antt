-- An accepted put keeps the invariant, and the table always has a place for it.
use Rattle.std.proofs.Common.{◌≡◌, ℕ, Bool, true, false, cond, List, [], ◌∷◌, ◌++◌, length, ℤ, Some, None, Option, unwrap_or, sym, refl, ◌∙◌, subst, ⊎_elim, arith}
use Rattle.std.specs.List.{ContainsAt as Has}
use Rattle.ring.specs.Elem.{Elem}
use Rattle.ring.specs.Class.{InRange}
use Rattle.engine.specs.Meaning.{elem}
use Rattle.rules.specs.Lists.{alike, has, distinct}
use Rattle.rules.specs.Views.{Setting, Machine, View}
use Rattle.rules.specs.Table.{Unfit}
use Rattle.rules.specs.Told.{rows_at, Puts}
use Rattle.rules.specs.History.{History, first_some, latest, says_of, held}
use Rattle.rules.specs.Comes.{event}
use Rattle.rules.specs.Theorems.{Sound}
use Rattle.rules.specs.declared.calls.Standing.TheVariants as standing
use Rattle.rules.specs.declared.calls.Answer.TheVariants.{Held}
use Rattle.rules.specs.declared.calls.Call.TheVariants.{Put}
use Rattle.rules.proofs.Lists.{has_push, distinct_push, false_since, listed_has}
use Rattle.rules.proofs.Expanding.{length_push}
use Rattle.rules.proofs.Digits.{Digits, pushed, digits_push, at_most_128}
use Rattle.rules.proofs.Standings.{idle_of}
use Rattle.rules.proofs.Invariant.{Inv, unfit, still}
use Rattle.rules.proofs.Classes.{below_since, own_class}

module _ {E C : Type 0} (k : Setting) (M : Machine E C) (e : E) (h : History) (v : View E) (i : Inv k M e h v) where
  -- what a put that no row fits adds
  new_digits : (x y : ℤ) → Unfit (rows_at k M v v (Put x y)) → Digits k.ring v.width (v.digits ++ elem x y ∷ [])
  new_digits x y u = digits_push k.ring v.width v.digits (elem x y) i.digits u.1.1.0 u.1.1.1.0

  new_once : (x y : ℤ) → Unfit (rows_at k M v v (Put x y)) → distinct (v.digits ++ elem x y ∷ []) ≡ true
  new_once x y u = distinct_push v.digits (elem x y) i.once (false_since _ (λ m. u.1.1.1.0 (elem x y, listed_has v.digits (elem x y) m, own_class k.ring v.width (elem x y))))

  new_ranged : (x y : ℤ) → Unfit (rows_at k M v v (Put x y)) → (d : Elem) → Has (v.digits ++ elem x y ∷ []) d → InRange d
  new_ranged x y u d m = ⊎_elim (λ q. subst InRange q (below_since 256 (elem x y) u.1.0)) (i.ranged d) (pushed v.digits (elem x y) d m)

  pub put_keeps : (x y : ℤ) (j : ℕ) (w : View E) → Puts k M v w x y j → Inv k M e (event (Put x y) (Held j) w.standing ∷ h) w
  put_keeps x y j w t = subst (λ (u : View E). Inv k M e (event (Put x y) (Held j) u.standing ∷ h) u) (sym t.after) (record {
    answers = ((unfit k M e h v i (Put x y) t.fits, (j, refl, (more, new_once x y t.fits, holds, count), refl)), i.answers);
    stands = refl;
    wide = i.wide;
    holds = holds;
    once = new_once x y t.fits;
    clear = refl;
    bar = refl;
    verdict = refl;
    meaning = i.meaning;
    some = i.some;
    most = i.most;
    ranged = new_ranged x y t.fits;
    digits = new_digits x y t.fits;
    ready = tt;
    going = still k M e h v i (event (Put x y) (Held j) standing.Draft) v.width more standing.Draft None (idle_of v.standing t.fits.0) refl;
  })
    where
      more : List Elem
      more = v.digits ++ elem x y ∷ []

      count : j ≡ length (v.digits ++ elem x y ∷ [])
      count = let l = length_push v.digits (elem x y) in omega (arith, t.number)

      said : (b u : Bool) (o : Option Bool) → u ≡ unwrap_or o false → cond b true u ≡ unwrap_or (first_some (cond b (Some true) None) o) false
      said true u o q = refl
      said false u o q = q

      holds : (d : Elem) → has (v.digits ++ elem x y ∷ []) d ≡ held (event (Put x y) (Held j) standing.Draft ∷ h) d
      holds d = has_push v.digits (elem x y) d ∙ said (alike (elem x y) d) (has v.digits d) (latest (λ q. says_of d q.call) h) (i.holds d)

  -- a put that no row fits never finds 128 digits held
  pub never_crowded : Sound k → (x y : ℤ) → Unfit (rows_at k M v v (Put x y)) → length v.digits ≡ 128 → ⊥
  never_crowded sound x y u q =
      let l = at_most_128 k.ring sound.lawful (v.digits ++ elem x y ∷ []) (new_once x y u) v.width k.widest sound.widths i.some i.most (new_digits x y u) in
      let n = length_push v.digits (elem x y) in
      omega arith
