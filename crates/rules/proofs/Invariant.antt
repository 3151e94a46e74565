-- What every call keeps, strong enough to go on, and how it gives the theorem.
use Rattle.std.proofs.Common.{◌≡◌, ℕ, ◌≤◌, true, false, cond, ◌≢◌, List, [], ◌++◌, length, Some, None, Option, sym, refl, ap, ◌∙◌, subst, ⊎_elim, arith, MatchOption}
use Rattle.std.specs.Option.{option_map}
use Rattle.std.specs.List.{ContainsAt as Has}
use Rattle.std.proofs.lemmas.Bool.{both_ways, cases_Bool}
use Rattle.ring.specs.Elem.{Elem, add, 𝟘, Below}
use Rattle.ring.specs.System.{System, mul, pow}
use Rattle.ring.specs.Class.{InRange, Full}
use Rattle.ring.specs.Expansion.{weighted, Expands}
use Rattle.ring.specs.Verdict.{Cleared}
use Rattle.ring.specs.Bounds.{Within}
use Rattle.refusals.specs.declared.Refusal.{Refusal}
use Rattle.digits.specs.declared.verdict.Verdict.{Verdict}
use Rattle.engine.specs.Meaning.{act}
use Rattle.engine.specs.Rings.{Over}
use Rattle.rules.specs.Lists.{has, distinct}
use Rattle.rules.specs.Views.{Setting, Machine, ring_of, View, new}
use Rattle.rules.specs.Table.{rows, Uppermost, Unfit}
use Rattle.rules.specs.Told.{rows_at, redrawn}
use Rattle.rules.specs.History.{History, running, cleared, barred, stood, width, held, Holding, lasting, Run, closing, run, whole, RunExpands, rows_after, Answers, Ran, clears, bars, Idle, After}
use Rattle.rules.specs.Theorems.{Sound}
use Rattle.rules.specs.declared.calls.Standing.{Standing}
use Rattle.rules.specs.declared.calls.Standing.TheVariants as standing
use Rattle.rules.specs.declared.calls.Call.{Call}
use Rattle.rules.specs.declared.calls.Event.{Event}
use Rattle.rules.proofs.Lists.{has_listed, listed_has}
use Rattle.rules.proofs.Sets.{unfit_over, uppermost_over}
use Rattle.rules.proofs.Expanding.{one_expansion, all_of, none_left}
use Rattle.rules.proofs.Digits.{Digits, no_digits}
use Rattle.rules.proofs.Standings.{false_true, keep_closed}

-- the set is full, and every element has an expansion over it
pub record Clear (s : System) (w : ℕ) (ds : List Elem) : Type 0 where
  pub full : Full s w (Has ds)
  pub all : Cleared s w (Has ds)

abbrev pub Stands : System → ℕ → List Elem → Elem → Standing → Type 0
Stands s w ds z standing.Draft = Unit {0}
Stands s w ds z standing.Barred = Unit {0}
Stands s w ds z standing.Cleared = Clear s w ds
Stands s w ds z standing.Running = Clear s w ds × (z ≢ 𝟘)

pub clear_of : (s : System) (w : ℕ) (ds : List Elem) (z : Elem) (t : Standing) → cleared t ≡ true → Stands s w ds z t → Clear s w ds
clear_of s w ds z standing.Draft e x = false_true e
clear_of s w ds z standing.Barred e x = false_true e
clear_of s w ds z standing.Cleared e x = x
clear_of s w ds z standing.Running e x = x.0

pub left_of : (s : System) (w : ℕ) (ds : List Elem) (z : Elem) (t : Standing) → running t ≡ true → Stands s w ds z t → z ≢ 𝟘
left_of s w ds z standing.Draft e x = false_true e
left_of s w ds z standing.Barred e x = false_true e
left_of s w ds z standing.Cleared e x = false_true e
left_of s w ds z standing.Running e x = x.1

module _ {E C : Type 0} (k : Setting) (M : Machine E C) where
  -- what holds of the last run, strong enough to go on
  pub record Going (r : Run) (v : View E) : Type 0 where
    pub sum : r.element ≡ add (weighted k.ring r.digits) (mul k.ring (pow k.ring k.ring.β (length r.digits)) v.remainder)
    pub limit : Below k.loading r.element
    pub within : Within k.ring k.loading v.remainder
    pub told : v.ticks ≡ length r.digits
    pub some : 1 ≤ width r.before
    pub full : Full k.ring (width r.before) (Holding r.before)
    pub ranged : (d : Elem) → Holding r.before d → InRange d
    pub over : Over k.ring (M.meaning v.engine)
    pub rest : List Elem
    pub is : RunExpands k r (r.digits ++ rest)
    pub left : Expands k.ring (width r.before) (Holding r.before) v.remainder rest
    pub wide : running v.standing ≡ true → v.width ≡ width r.before
    pub holds : running v.standing ≡ true → (d : Elem) → has v.digits d ≡ held r.before d
    pub unclosed : running v.standing ≡ true → r.closed ≡ None
    pub shut : running v.standing ≡ false → r.closed ≡ None → ⊥
    pub ended : whole r.closed ≡ true → v.remainder ≡ 𝟘
    pub unended : whole r.closed ≡ false → v.remainder ≢ 𝟘
    pub total : M.total_of v.engine ≡ act (M.meaning v.engine) (weighted k.ring r.digits) (M.meaning v.engine).start
    pub current : running v.standing ≡ true → M.current_of v.engine ≡ act (M.meaning v.engine) (pow k.ring k.ring.β (length r.digits)) (M.meaning v.engine).start

  abbrev pub Rested : E → View E → Option Run → Type 0
  Rested e v o = MatchOption o ((running v.standing ≡ false) × Idle k M e v) (λ r. Going r v)

  pub record Inv (e : E) (h : History) (v : View E) : Type 0 where
    pub answers : Answers k (ring_of (M.meaning e)) h
    pub stands : v.standing ≡ stood h
    pub wide : v.width ≡ width h
    pub holds : (d : Elem) → has v.digits d ≡ held h d
    pub once : distinct v.digits ≡ true
    pub clear : cleared v.standing ≡ clears (lasting h)
    pub bar : barred v.standing ≡ bars (lasting h)
    pub verdict : v.verdict ≡ lasting h
    pub meaning : M.meaning v.engine ≡ M.meaning e
    pub some : 1 ≤ v.width
    pub most : v.width ≤ k.widest
    pub ranged : (d : Elem) → Has v.digits d → InRange d
    pub digits : Digits k.ring v.width v.digits
    pub ready : Stands k.ring v.width v.digits v.remainder v.standing
    pub going : Rested e v (run h)

  -- the invariant gives the theorem
  module _ (sound : Sound k) (e : E) (h : History) (v : View E) (i : Inv e h v) where
    ran : (r : Run) → Going r v → Ran k M r v
    ran r g = record {
      sum = subst (λ j. r.element ≡ add (weighted k.ring r.digits) (mul k.ring (pow k.ring k.ring.β j) v.remainder)) (sym g.told) g.sum;
      told = g.told;
      begins = record { rest = g.rest; is = g.is; only = λ es x. one_expansion k.ring sound.lawful (Holding r.before) (width r.before) g.some g.full r.element es (r.digits ++ g.rest) x g.is };
      all = whole_all;
      closes = λ x. ⊎_elim (λ y. y) (λ y. absurd (g.unended y (none_left k.ring sound.lawful (Holding r.before) (width r.before) g.some g.full r.digits g.rest r.element v.remainder g.is g.left x))) (cases_Bool (whole r.closed));
      total = g.total;
      done = λ y. g.total ∙ ap (λ z. act (M.meaning v.engine) z (M.meaning v.engine).start) (whole_all y).total;
    }
      where
        whole_all : whole r.closed ≡ true → RunExpands k r r.digits
        whole_all y = all_of k.ring sound.lawful (Holding r.before) (width r.before) g.some g.full r.digits g.rest r.element v.remainder g.is g.left (g.ended y)

    ran_or_idle : (o : Option Run) → Rested e v o → MatchOption o (Idle k M e v) (λ r. Ran k M r v)
    ran_or_idle None x = x.1
    ran_or_idle (Some r) g = ran r g

    pub after : After k M e h v
    after = record {
      answers = i.answers;
      stands = i.stands;
      wide = i.wide;
      holds = i.holds;
      once = i.once;
      clear = i.clear;
      bar = i.bar;
      verdict = i.verdict;
      meaning = i.meaning;
      ran = ran_or_idle (run h) i.going;
    }

  -- a new unit
  pub start_inv : Sound k → (e : E) → Inv e [] (new e)
  start_inv sound e = record {
    answers = tt;
    stands = refl;
    wide = refl;
    holds = λ d. refl;
    once = refl;
    clear = refl;
    bar = refl;
    verdict = refl;
    meaning = refl;
    some = omega arith;
    most = sound.widths.some;
    ranged = λ d m. false_true (has_listed [] d m);
    digits = no_digits k.ring 1;
    ready = tt;
    going = (refl, record { ticks = refl; remainder = refl; engine = refl });
  }

  module _ (e : E) (h : History) (v : View E) (i : Inv e h v) where
    pub to_held : (d : Elem) → Has v.digits d → Holding h d
    to_held d m = sym (i.holds d) ∙ has_listed v.digits d m

    pub from_held : (d : Elem) → Holding h d → Has v.digits d
    from_held d m = listed_has v.digits d (i.holds d ∙ m)

    -- the table at the unit is the table after the history
    pub unfit : (c : Call) → Unfit (rows_at k M v v c) → Unfit (rows_after k (ring_of (M.meaning e)) h c)
    unfit c u = subst (λ t. t) (λ j. Unfit (rows k (ring_of (i.meaning j)) (i.wide j) (Holding h) (i.stands j) c)) (unfit_over k (ring_of (M.meaning v.engine)) v.width (Has v.digits) (Holding h) v.standing to_held from_held c u)

    pub fitting : (c : Call) (x : Refusal) → Uppermost (rows_at k M v v c) x → Uppermost (rows_after k (ring_of (M.meaning e)) h c) x
    fitting c x u = subst (λ t. t) (λ j. Uppermost (rows k (ring_of (i.meaning j)) (i.wide j) (Holding h) (i.stands j) c) x) (uppermost_over k (ring_of (M.meaning v.engine)) v.width (Has v.digits) (Holding h) v.standing to_held from_held c x u)

    -- a run that stands closed stays so, whatever becomes of width, digits, standing and verdict
    pub still : (x : Event) (n : ℕ) (ds : List Elem) (s : Standing) (o : Option Verdict) → running v.standing ≡ false → running s ≡ false → Rested e (redrawn k M v v n ds s o) (option_map (closing x) (run h))
    still x n ds s o was is = go (run h) i.going
      where
        go : (q : Option Run) → Rested e v q → Rested e (redrawn k M v v n ds s o) (option_map (closing x) q)
        go None y = (is, record { ticks = y.1.ticks; remainder = y.1.remainder; engine = y.1.engine })
        go (Some r) g =
            let same = keep_closed r.closed (cond (running x.standing) None (Some x.call)) (g.shut was) in
            record {
              sum = g.sum;
              limit = g.limit;
              within = g.within;
              told = g.told;
              some = g.some;
              full = g.full;
              ranged = g.ranged;
              over = g.over;
              rest = g.rest;
              is = g.is;
              left = g.left;
              wide = λ y. absurd (both_ways (running s) is y);
              holds = λ y. absurd (both_ways (running s) is y);
              unclosed = λ y. absurd (both_ways (running s) is y);
              shut = λ y q. g.shut was (sym same ∙ q);
              ended = λ y. g.ended (ap whole (sym same) ∙ y);
              unended = λ y. g.unended (ap whole (sym same) ∙ y);
              total = g.total;
              current = λ y. absurd (both_ways (running s) is y);
            }
