-- An accepted abandon keeps the invariant.
use Rattle.std.proofs.Common.{◌≡◌, true, ◌∷◌, Some, None, Option, sym, refl, ap, ◌∙◌, subst}
use Rattle.std.specs.Option.{option_map}
use Rattle.std.proofs.lemmas.Bool.{both_ways}
use Rattle.rules.specs.Views.{Setting, Machine, View}
use Rattle.rules.specs.Told.{redrawn, Abandons}
use Rattle.rules.specs.History.{History, running, first_some, Run, closing, run, whole}
use Rattle.rules.specs.Comes.{event}
use Rattle.rules.specs.declared.calls.Standing.TheVariants as standing
use Rattle.rules.specs.declared.calls.Answer.TheVariants.{Abandoned}
use Rattle.rules.specs.declared.calls.Call.TheVariants.{Abandon}
use Rattle.rules.proofs.Standings.{false_true, some_none, on_of, running_clear, clear_not_barred}
use Rattle.rules.proofs.Invariant.{clear_of, left_of, Rested, Inv, unfit}

module _ {E C : Type 0} (k : Setting) (M : Machine E C) (e : E) (h : History) (v : View E) (i : Inv k M e h v) where
  pub abandon_keeps : (w : View E) → Abandons k M v w → Inv k M e (event Abandon Abandoned w.standing ∷ h) w
  abandon_keeps w t = subst (λ (u : View E). Inv k M e (event Abandon Abandoned u.standing ∷ h) u) (sym t.after) (record {
    answers = ((unfit k M e h v i Abandon t.fits, (refl, refl)), i.answers);
    stands = refl;
    wide = i.wide;
    holds = i.holds;
    once = i.once;
    clear = sym (running_clear v.standing on) ∙ i.clear;
    bar = sym (clear_not_barred v.standing (running_clear v.standing on)) ∙ i.bar;
    verdict = i.verdict;
    meaning = i.meaning;
    some = i.some;
    most = i.most;
    ranged = i.ranged;
    digits = i.digits;
    ready = clear_of k.ring v.width v.digits v.remainder v.standing (running_clear v.standing on) i.ready;
    going = go (run h) i.going;
  })
    where
      on : running v.standing ≡ true
      on = on_of v.standing t.fits.0

      go : (o : Option Run) → Rested k M e v o → Rested k M e (redrawn k M v v v.width v.digits standing.Cleared v.verdict) (option_map (closing (event Abandon Abandoned standing.Cleared)) o)
      go None x = absurd (both_ways (running v.standing) x.0 on)
      go (Some r) g =
          let shut : first_some r.closed (Some Abandon) ≡ Some Abandon = ap (λ o. first_some o (Some Abandon)) (g.unclosed on) in
          record {
            sum = g.sum;
            limit = g.limit;
            within = g.within;
            told = g.told;
            some = g.some;
            full = g.full;
            ranged = g.ranged;
            over = g.over;
            rest = g.rest;
            is = g.is;
            left = g.left;
            wide = λ y. false_true y;
            holds = λ y. false_true y;
            unclosed = λ y. false_true y;
            shut = λ y q. some_none Abandon (sym shut ∙ q);
            ended = λ y. false_true (sym (ap whole shut) ∙ y);
            unended = λ y. left_of k.ring v.width v.digits v.remainder v.standing on i.ready;
            total = g.total;
            current = λ y. false_true y;
          }
