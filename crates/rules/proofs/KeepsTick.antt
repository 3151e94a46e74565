-- An accepted tick keeps the invariant: its run goes on by one digit; and a run that is on always has a step, and a number for it.
use Rattle.std.proofs.Common.{◌≡◌, ◌+◌, ◌*◌, ◌^◌, ◌<◌, ◌≤◌, true, cond, ◌≢◌, ◌⊎◌, List, [], ◌∷◌, ◌++◌, length, ℤ, Some, None, Option, sym, refl, ap, ◌∙◌, subst, inl, inr, ⊎_elim, append_assoc, arith, length-append, MatchOption}
use Rattle.std.specs.Option.{option_map}
use Rattle.std.specs.List.{ContainsAt as Has}
use Rattle.std.proofs.lemmas.Bool.{both_ways}
use Rattle.ring.specs.Elem.{Elem, 𝟘, Below}
use Rattle.ring.specs.System.{pow}
use Rattle.ring.specs.Expansion.{weighted, Expands}
use Rattle.ring.specs.Trail.{Step}
use Rattle.ring.proofs.Sums.{weighted_push}
use Rattle.ring.proofs.Magnitudes.{step as step_within, coordinates}
use Rattle.numbers.specs.Meaning.{short}
use Rattle.numbers.specs.declared.elements.Element.{Element}
use Rattle.engine.specs.Meaning.{LawfulMeaning, act}
use Rattle.engine.specs.Rings.{Over}
use Rattle.engine.proofs.Acting.{step_law}
use Rattle.rules.specs.Views.{Setting, Machine, View}
use Rattle.rules.specs.Told.{Closes, Stopped, Ticks}
use Rattle.rules.specs.History.{History, running, first_some, width, Holding, Run, closing, ticking, run, whole, RunExpands, Goes}
use Rattle.rules.specs.Comes.{event}
use Rattle.rules.specs.Theorems.{Sound}
use Rattle.rules.specs.declared.calls.Standing.{Standing}
use Rattle.rules.specs.declared.calls.Standing.TheVariants as standing
use Rattle.rules.specs.declared.calls.Answer.TheVariants.{Digit}
use Rattle.rules.specs.declared.calls.Call.TheVariants.{Tick}
use Rattle.rules.proofs.Lists.{has_listed, listed_has}
use Rattle.rules.proofs.Sets.{step_over}
use Rattle.rules.proofs.Classes.{below_more}
use Rattle.rules.proofs.Expanding.{length_push, sum_more, one_expansion, stepped, can_step, all_of, none_left, length_small}
use Rattle.rules.proofs.Standings.{false_true, some_none, on_of, running_clear, clear_not_barred, closes_clear, closes_bar}
use Rattle.rules.proofs.Invariant.{clear_of, left_of, Going, Rested, Inv, unfit}
use Rattle.rules.proofs.KeepsLoad.{closes_ready}

module _ {E C : Type 0} (k : Setting) (M : Machine E C) (sound : Sound k) (lawful : (x : E) → LawfulMeaning (M.meaning x)) (e : E) (h : History) (v : View E) (i : Inv k M e h v) where
  -- a run that is on has a remainder left
  some_left : running v.standing ≡ true → v.remainder ≢ 𝟘
  some_left on = left_of k.ring v.width v.digits v.remainder v.standing on i.ready

  -- the run r goes on: the digit d, the remainder z
  module _ (on : running v.standing ≡ true) (r : Run) (g : Going k M r v) (d z : Elem) (taken : Step k.ring v.width (Has v.digits) v.remainder d z) where
    step_at_load : Step k.ring (width r.before) (Holding r.before) v.remainder d z
    step_at_load = subst (λ n. Step k.ring n (Holding r.before) v.remainder d z) (g.wide on) (step_over k.ring v.width (Has v.digits) (Holding r.before) (λ x m. sym (g.holds on x) ∙ has_listed v.digits x m) v.remainder d z taken)

    next : (fs : List Elem) × (g.rest ≡ d ∷ fs) × Expands k.ring (width r.before) (Holding r.before) z fs
    next = stepped k.ring sound.lawful (Holding r.before) (width r.before) g.some g.full g.rest v.remainder d z g.left (some_left on) step_at_load

    is_next : RunExpands k r ((r.digits ++ d ∷ []) ++ next.0)
    is_next = subst (RunExpands k r) (ap (λ l. r.digits ++ l) next.1 ∙ sym (append_assoc r.digits (d ∷ []) next.0)) g.is

    goes_on : (s : Standing) → Closes z s → Goes k r d s
    goes_on s c = record {
      begins = record { rest = next.0; is = is_next; only = λ es x. one_expansion k.ring sound.lawful (Holding r.before) (width r.before) g.some g.full r.element es ((r.digits ++ d ∷ []) ++ next.0) x is_next };
      leaves = ⊎_elim
          (λ p. inl (p.1, all_of k.ring sound.lawful (Holding r.before) (width r.before) g.some g.full (r.digits ++ d ∷ []) next.0 r.element z is_next next.2 p.0))
          (λ p. inr (p.1, λ x. p.0 (none_left k.ring sound.lawful (Holding r.before) (width r.before) g.some g.full (r.digits ++ d ∷ []) next.0 r.element z is_next next.2 x)))
          c;
    }

  pub tick_keeps : (d : Element ℤ) (w : View E) → Ticks k M v w d → Inv k M e (event Tick (Digit d) w.standing ∷ h) w
  tick_keeps d w t = subst (λ (u : View E). Inv k M e (event Tick (Digit d) u.standing ∷ h) u) (sym t.after) (record {
    answers = ((unfit k M e h v i Tick t.fits, (d, refl, goes (run h) i.going)), i.answers);
    stands = refl;
    wide = i.wide;
    holds = i.holds;
    once = i.once;
    clear = closes_clear w.remainder w.standing t.stands ∙ sym (running_clear v.standing on) ∙ i.clear;
    bar = closes_bar w.remainder w.standing t.stands ∙ sym (clear_not_barred v.standing (running_clear v.standing on)) ∙ i.bar;
    verdict = i.verdict;
    meaning = t.moved.meaning ∙ i.meaning;
    some = i.some;
    most = i.most;
    ranged = i.ranged;
    digits = i.digits;
    ready = closes_ready k.ring v.width v.digits w.remainder w.standing t.stands (clear_of k.ring v.width v.digits v.remainder v.standing (running_clear v.standing on) i.ready);
    going = go (run h) i.going;
  })
    where
      on : running v.standing ≡ true
      on = on_of v.standing t.fits.0

      goes : (o : Option Run) → Rested k M e v o → MatchOption o ⊥ (λ r. Goes k r (short d) w.standing)
      goes None x = both_ways (running v.standing) x.0 on
      goes (Some r) g = goes_on on r g (short d) w.remainder t.step.step w.standing t.stands

      seen : Standing → View E
      seen s = record { width = v.width; digits = v.digits; standing = s; ticks = v.ticks + 1; remainder = w.remainder; verdict = v.verdict; engine = w.engine }

      go : (o : Option Run) → Rested k M e v o → Rested k M e (seen w.standing) (option_map (closing (event Tick (Digit d) w.standing)) (option_map (ticking (event Tick (Digit d) w.standing)) o))
      go None x = absurd (both_ways (running v.standing) x.0 on)
      go (Some r) g = made w.standing t.stands
        where
          total : M.total_of w.engine ≡ act (M.meaning w.engine) (weighted k.ring (r.digits ++ short d ∷ [])) (M.meaning w.engine).start
          total =
              t.moved.total
              ∙ (step_law (M.meaning v.engine) (lawful v.engine) k.ring g.over (weighted k.ring r.digits) (pow k.ring k.ring.β (length r.digits)) (M.total_of v.engine) (M.current_of v.engine) g.total (g.current on) (short d) k.ring.β).added
              ∙ ap (λ z. act (M.meaning v.engine) z (M.meaning v.engine).start) (sym (weighted_push k.ring r.digits (short d)))
              ∙ ap (λ m. act m (weighted k.ring (r.digits ++ short d ∷ [])) m.start) (sym t.moved.meaning)

          current : M.current_of w.engine ≡ act (M.meaning w.engine) (pow k.ring k.ring.β (length (r.digits ++ short d ∷ []))) (M.meaning w.engine).start
          current =
              t.moved.current
              ∙ (step_law (M.meaning v.engine) (lawful v.engine) k.ring g.over (weighted k.ring r.digits) (pow k.ring k.ring.β (length r.digits)) (M.total_of v.engine) (M.current_of v.engine) g.total (g.current on) (short d) k.ring.β).shifted
              ∙ ap (λ n. act (M.meaning v.engine) (pow k.ring k.ring.β n) (M.meaning v.engine).start) (sym (length_push r.digits (short d)))
              ∙ ap (λ m. act m (pow k.ring k.ring.β (length (r.digits ++ short d ∷ []))) m.start) (sym t.moved.meaning)

          told : v.ticks + 1 ≡ length (r.digits ++ short d ∷ [])
          told = let l = length_push r.digits (short d) in let q = g.told in omega arith

          taken : Step k.ring (width r.before) (Holding r.before) v.remainder (short d) w.remainder
          taken = step_at_load on r g (short d) w.remainder t.step.step

          then : (fs : List Elem) × (g.rest ≡ short d ∷ fs) × Expands k.ring (width r.before) (Holding r.before) w.remainder fs
          then = next on r g (short d) w.remainder t.step.step

          shut : (a : Standing) → first_some r.closed (cond (running a) None (Some Tick)) ≡ cond (running a) None (Some Tick)
          shut a = ap (λ o. first_some o (cond (running a) None (Some Tick))) (g.unclosed on)

          ended : w.remainder ≡ 𝟘 → Going k M (closing (event Tick (Digit d) standing.Cleared) (ticking (event Tick (Digit d) standing.Cleared) r)) (seen standing.Cleared)
          ended q = record {
            sum = sum_more k.ring (width r.before) (Holding r.before) r.digits r.element v.remainder (short d) w.remainder g.sum taken;
            limit = g.limit;
            within = step_within k.ring sound.lawful k.loading sound.enough (width r.before) (Holding r.before) g.ranged v.remainder (short d) w.remainder taken g.within;
            told = told;
            some = g.some;
            full = g.full;
            ranged = g.ranged;
            over = subst (Over k.ring) (sym t.moved.meaning) g.over;
            rest = then.0;
            is = is_next on r g (short d) w.remainder t.step.step;
            left = then.2;
            wide = λ y. false_true y;
            holds = λ y. false_true y;
            unclosed = λ y. false_true y;
            shut = λ y x. some_none Tick (sym (shut standing.Cleared) ∙ x);
            ended = λ y. q;
            unended = λ y. false_true (sym y ∙ ap whole (shut standing.Cleared));
            total = total;
            current = λ y. false_true y;
          }

          onward : w.remainder ≢ 𝟘 → Going k M (closing (event Tick (Digit d) standing.Running) (ticking (event Tick (Digit d) standing.Running) r)) (seen standing.Running)
          onward q = record {
            sum = sum_more k.ring (width r.before) (Holding r.before) r.digits r.element v.remainder (short d) w.remainder g.sum taken;
            limit = g.limit;
            within = step_within k.ring sound.lawful k.loading sound.enough (width r.before) (Holding r.before) g.ranged v.remainder (short d) w.remainder taken g.within;
            told = told;
            some = g.some;
            full = g.full;
            ranged = g.ranged;
            over = subst (Over k.ring) (sym t.moved.meaning) g.over;
            rest = then.0;
            is = is_next on r g (short d) w.remainder t.step.step;
            left = then.2;
            wide = λ y. g.wide on;
            holds = λ y. g.holds on;
            unclosed = λ y. shut standing.Running;
            shut = λ y x. false_true (sym y);
            ended = λ y. false_true (sym (ap whole (shut standing.Running)) ∙ y);
            unended = λ y. q;
            total = total;
            current = λ y. current;
          }

          made : (a : Standing) → Closes w.remainder a → Going k M (closing (event Tick (Digit d) a) (ticking (event Tick (Digit d) a) r)) (seen a)
          made a (inl p) = subst (λ b. Going k M (closing (event Tick (Digit d) b) (ticking (event Tick (Digit d) b) r)) (seen b)) (sym p.1) (ended p.0)
          made a (inr p) = subst (λ b. Going k M (closing (event Tick (Digit d) b) (ticking (event Tick (Digit d) b) r)) (seen b)) (sym p.1) (onward p.0)

  -- a unit that runs can take a step and count it
  pub never_stuck : running v.standing ≡ true → Stopped k.ring k.working v.width v.digits v.remainder ⊎ (2 ^ 32 ≤ v.ticks + 1) → ⊥
  never_stuck on x = go (run h) i.going
    where
      go : (o : Option Run) → Rested k M e v o → ⊥
      go None y = both_ways (running v.standing) y.0 on
      go (Some r) g = by x
        where
          low : Below k.working v.remainder
          low = below_more (3 * k.loading) k.working v.remainder (let l = sound.room in omega arith) (coordinates k.ring sound.lawful k.loading sound.enough v.remainder g.within)

          digit : (d z : Elem) → Step k.ring (width r.before) (Holding r.before) v.remainder d z → Step k.ring v.width (Has v.digits) v.remainder d z
          digit d z q = step_over k.ring v.width (Holding r.before) (Has v.digits) (λ x m. listed_has v.digits x (g.holds on x ∙ m)) v.remainder d z (subst (λ j. Step k.ring j (Holding r.before) v.remainder d z) (sym (g.wide on)) q)

          step : (d z : Elem) × Step k.ring (width r.before) (Holding r.before) v.remainder d z
          step = can_step k.ring sound.lawful (Holding r.before) (width r.before) g.some g.full g.rest v.remainder g.left (some_left on)

          rest_some : (es : List Elem) → Expands k.ring (width r.before) (Holding r.before) v.remainder es → 1 ≤ length es
          rest_some [] y = absurd (some_left on (sym y.total))
          rest_some (a ∷ es) y = omega arith

          small : length (r.digits ++ g.rest) < 2 ^ 32
          small = length_small k.ring sound.lawful (Holding r.before) (width r.before) g.some g.full g.ranged r.element (r.digits ++ g.rest) (below_more k.loading (2 ^ 56) r.element sound.countable g.limit) g.is

          by : Stopped k.ring k.working v.width v.digits v.remainder ⊎ (2 ^ 32 ≤ v.ticks + 1) → ⊥
          by (inl y) = y step.0 step.1 low (digit step.0 step.1 step.2)
          by (inr l) =
              let a = rest_some g.rest g.left in
              let b = length-append r.digits g.rest in
              let c = g.told in
              let m = small in
              omega arith
