-- A refused call keeps the invariant: it alters nothing.
use Rattle.std.proofs.Common.{◌≡◌, ◌∷◌, sym, refl, subst}
use Rattle.refusals.specs.declared.Refusal.{Refusal}
use Rattle.rules.specs.Views.{Setting, Machine, ring_of, View}
use Rattle.rules.specs.Table.{Uppermost}
use Rattle.rules.specs.Told.{rows_at}
use Rattle.rules.specs.History.{History, rows_after}
use Rattle.rules.specs.Comes.{event}
use Rattle.rules.specs.declared.calls.Answer.TheVariants.{Refused}
use Rattle.rules.specs.declared.calls.Call.{Call}
use Rattle.rules.proofs.Invariant.{Inv, fitting}

module _ {E C : Type 0} (k : Setting) (M : Machine E C) (e : E) (h : History) (v : View E) (i : Inv k M e h v) where
  unchanged : (c : Call) (x : Refusal) → Uppermost (rows_after k (ring_of (M.meaning e)) h c) x → Inv k M e (event c (Refused x) v.standing ∷ h) v
  unchanged c x why = record {
    answers = ((why, i.stands), i.answers);
    stands = refl;
    wide = i.wide;
    holds = i.holds;
    once = i.once;
    clear = i.clear;
    bar = i.bar;
    verdict = i.verdict;
    meaning = i.meaning;
    some = i.some;
    most = i.most;
    ranged = i.ranged;
    digits = i.digits;
    ready = i.ready;
    going = i.going;
  }

  pub refused_keeps : (c : Call) (x : Refusal) (w : View E) → Uppermost (rows_at k M v w c) x → w ≡ v → Inv k M e (event c (Refused x) w.standing ∷ h) w
  refused_keeps c x w why q = subst (λ (u : View E). Inv k M e (event c (Refused x) u.standing ∷ h) u) (sym q) (unchanged c x (fitting k M e h v i c x why))
