-- An accepted load keeps the invariant: its run begins.
use Rattle.std.proofs.Common.{◌≡◌, ℕ, ◌≤◌, true, ◌≢◌, [], ◌∷◌, ℤ, None, sym, refl, ap, ◌∙◌, subst, inl, inr}
use Rattle.std.specs.List.{ContainsAt as Has}
use Rattle.ring.specs.Elem.{Elem, add, 𝟘, 𝟙, Below}
use Rattle.ring.specs.System.{System, mul}
use Rattle.ring.specs.Class.{Full}
use Rattle.ring.specs.Expansion.{HasExpansion}
use Rattle.ring.proofs.Elements.{add_zero, mul_one}
use Rattle.ring.proofs.Magnitudes.{loaded}
use Rattle.numbers.specs.Meaning.{short}
use Rattle.numbers.specs.declared.elements.Element.{Element}
use Rattle.engine.specs.Meaning.{LawfulMeaning, act}
use Rattle.engine.specs.Rings.{Over}
use Rattle.engine.proofs.Acting.{act_zero, act_one}
use Rattle.rules.specs.Views.{Setting, Machine, ring_of, View}
use Rattle.rules.specs.Told.{Closes, Loads}
use Rattle.rules.specs.History.{History, cleared, width, Holding, Run, closing}
use Rattle.rules.specs.Comes.{event}
use Rattle.rules.specs.Theorems.{Sound}
use Rattle.rules.specs.declared.calls.Standing.{Standing}
use Rattle.rules.specs.declared.calls.Standing.TheVariants as standing
use Rattle.rules.specs.declared.calls.Answer.TheVariants.{Loaded}
use Rattle.rules.specs.declared.calls.Call.TheVariants.{Load}
use Rattle.rules.proofs.Sets.{expansion_over, full_over}
use Rattle.rules.proofs.Classes.{below_since, matches_since}
use Rattle.rules.proofs.Standings.{false_true, some_none, clear_ready, clear_not_barred, closes_clear, closes_bar}
use Rattle.rules.proofs.Invariant.{Clear, Stands, clear_of, Going, Inv, to_held, from_held, unfit}

-- a set that was clear stays so, whatever a load or a tick leaves
pub closes_ready : (s : System) (w : ℕ) (ds : _) (z : Elem) (t : Standing) → Closes z t → Clear s w ds → Stands s w ds z t
closes_ready s w ds z t (inl p) c = subst (Stands s w ds z) (sym p.1) c
closes_ready s w ds z t (inr p) c = subst (Stands s w ds z) (sym p.1) (c, p.0)

module _ {E C : Type 0} (k : Setting) (M : Machine E C) (sound : Sound k) (lawful : (x : E) → LawfulMeaning (M.meaning x)) (e : E) (h : History) (v : View E) (i : Inv k M e h v) where
  pub load_keeps : (z : Element ℤ) (w : View E) → Loads k M v w z → Inv k M e (event (Load z) Loaded w.standing ∷ h) w
  load_keeps z w t = subst (λ (u : View E). Inv k M e (event (Load z) Loaded u.standing ∷ h) u) (sym t.after) (record {
    answers = ((unfit k M e h v i (Load z) t.fits, (refl, t.stands)), i.answers);
    stands = refl;
    wide = i.wide;
    holds = i.holds;
    once = i.once;
    clear = closes_clear (short z) w.standing t.stands ∙ sym ready ∙ i.clear;
    bar = closes_bar (short z) w.standing t.stands ∙ sym (clear_not_barred v.standing ready) ∙ i.bar;
    verdict = i.verdict;
    meaning = t.restarted.meaning ∙ i.meaning;
    some = i.some;
    most = i.most;
    ranged = i.ranged;
    digits = i.digits;
    ready = closes_ready k.ring v.width v.digits (short z) w.standing t.stands clear;
    going = go w.standing t.stands;
  })
    where
      ready : cleared v.standing ≡ true
      ready = clear_ready v.standing t.fits.1.0

      clear : Clear k.ring v.width v.digits
      clear = clear_of k.ring v.width v.digits v.remainder v.standing ready i.ready

      expands : HasExpansion k.ring (width h) (Holding h) (short z)
      expands = subst (λ n. HasExpansion k.ring n (Holding h) (short z)) i.wide (expansion_over k.ring v.width (Has v.digits) (Holding h) (to_held k M e h v i) (short z) (clear.all (short z)))

      full : Full k.ring (width h) (Holding h)
      full = subst (λ n. Full k.ring n (Holding h)) i.wide (full_over k.ring v.width (Has v.digits) (Holding h) (to_held k M e h v i) (from_held k M e h v i) clear.full)

      limit : Below k.loading (short z)
      limit = below_since k.loading (short z) t.fits.1.1.1.0

      over : Over k.ring (M.meaning w.engine)
      over =
          let q = matches_since k.ring (ring_of (M.meaning v.engine)) t.fits.1.1.0 in
          subst (Over k.ring) (sym t.restarted.meaning) (record { same_t = q.0; same_n = q.1 })

      total : M.total_of w.engine ≡ act (M.meaning w.engine) 𝟘 (M.meaning w.engine).start
      total = t.restarted.total ∙ ap (λ m. m.origin) (sym t.restarted.meaning) ∙ sym (act_zero (lawful w.engine) (M.meaning w.engine).start (lawful w.engine).start_point)

      current : M.current_of w.engine ≡ act (M.meaning w.engine) 𝟙 (M.meaning w.engine).start
      current = t.restarted.current ∙ ap (λ m. m.start) (sym t.restarted.meaning) ∙ sym (act_one (lawful w.engine) (M.meaning w.engine).start (lawful w.engine).start_point)

      sums : short z ≡ add 𝟘 (mul k.ring 𝟙 (short z))
      sums = sym (add_zero (mul k.ring 𝟙 (short z)) ∙ mul_one k.ring (short z))

      started : Run
      started = record { element = short z; before = h; digits = []; closed = None }

      seen : Standing → View E
      seen s = record { width = v.width; digits = v.digits; standing = s; ticks = 0; remainder = short z; verdict = v.verdict; engine = w.engine }

      ended : short z ≡ 𝟘 → Going k M (closing (event (Load z) Loaded standing.Cleared) started) (seen standing.Cleared)
      ended q = record {
        sum = sums;
        limit = limit;
        within = loaded k.ring sound.lawful k.loading (short z) limit;
        told = refl;
        some = subst (λ n. 1 ≤ n) i.wide i.some;
        full = full;
        ranged = λ d m. i.ranged d (from_held k M e h v i d m);
        over = over;
        rest = expands.0;
        is = expands.1;
        left = expands.1;
        wide = λ y. false_true y;
        holds = λ y. false_true y;
        unclosed = λ y. false_true y;
        shut = λ y x. some_none (Load z) x;
        ended = λ y. q;
        unended = λ y. false_true (sym y);
        total = total;
        current = λ y. false_true y;
      }

      begun : short z ≢ 𝟘 → Going k M (closing (event (Load z) Loaded standing.Running) started) (seen standing.Running)
      begun q = record {
        sum = sums;
        limit = limit;
        within = loaded k.ring sound.lawful k.loading (short z) limit;
        told = refl;
        some = subst (λ n. 1 ≤ n) i.wide i.some;
        full = full;
        ranged = λ d m. i.ranged d (from_held k M e h v i d m);
        over = over;
        rest = expands.0;
        is = expands.1;
        left = expands.1;
        wide = λ y. i.wide;
        holds = λ y. i.holds;
        unclosed = λ y. refl;
        shut = λ y x. false_true (sym y);
        ended = λ y. false_true y;
        unended = λ y. q;
        total = total;
        current = λ y. current;
      }

      go : (s : Standing) → Closes (short z) s → Going k M (closing (event (Load z) Loaded s) started) (seen s)
      go s (inl p) = subst (λ a. Going k M (closing (event (Load z) Loaded a) started) (seen a)) (sym p.1) (ended p.0)
      go s (inr p) = subst (λ a. Going k M (closing (event (Load z) Loaded a) started) (seen a)) (sym p.1) (begun p.0)
