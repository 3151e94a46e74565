-- A run, from the load to its end, in terms of the history.
use Rattle.std.proofs.Common.{◌≡◌, ℕ, Bool, true, false, cond, List, [], ◌∷◌, ◌++◌, length, Some, None, Ok, Err, Option, Result, sym, refl, ap, ◌∙◌, subst, append_assoc, append-nil, MatchOption, MatchResult}
use Rattle.std.proofs.lemmas.Option.{none-some}
use Rattle.std.specs.Option.{option_map}
use mathlib.Core.Bool.{false≢true}
use Rattle.refusals.specs.declared.Refusal.{Refusal}
use Rattle.ring.specs.Elem.{Elem}
use Rattle.ring.specs.Expansion.{Expands}
use Rattle.numbers.specs.Meaning.{short}
use Rattle.engine.specs.Meaning.{act}
use Rattle.rules.specs.Views.{Setting, Machine, View}
use Rattle.rules.specs.History.{History, Run, accepted, cleared, running, stood, first_some, starting, ticking, closing, run, whole, width, Holding, Ran, Idle, After}
use Rattle.rules.specs.Comes.{Comes}
use Rattle.rules.specs.Told.{Loads, Down, answer, Tells}
use Rattle.rules.specs.declared.calls.Standing.{Standing}
use Rattle.rules.specs.declared.calls.Standing.TheVariants as standing
use Rattle.rules.specs.declared.calls.Answer.{Answer}
use Rattle.rules.specs.declared.calls.Answer.TheVariants as answers
use Rattle.rules.specs.declared.calls.Call.{Call}
use Rattle.rules.specs.declared.calls.Call.TheVariants as call
use Rattle.rules.specs.declared.calls.Event.{Event}
use Rattle.replies.specs.Sinks.{Given}
use Rattle.listing.specs.Lines.{tick_line}
use Rattle.transcript.specs.Serving.{Ticked}
use Rattle.residue.specs.Made.{residue_machine}
use Rattle.residue.specs.declared.ResidueEngine.{ResidueEngine}
use Rattle.replies.proofs.Sinks.{given_then, given_none}
use Rattle.transcript.proofs.Ticks.{closes_cleared}
use Rattle.transcript.specs.Transcript.{tick_lines, stands_before, tick_of, ticked, element_of, loaded}

-- the call that closes a run at its load, if one does
closed_by : Standing → Call → Option Call
closed_by s c = cond (running s) None (Some c)

-- the run that a load begins
begun : Event → History → Elem → Run
begun x h z = record { element = z; before = h; digits = []; closed = closed_by x.standing x.call }

begins_with : (x : Event) (h : History) (z : Elem) (b : Bool) (c : Call) → cond b (element_of c) None ≡ Some z →
    cond b (option_map (closing x) (starting x h (run h) c)) (run h) ≡ Some (begun x h z)
unfolding begun closed_by
begins_with x h z false c e = absurd (none-some z e)
begins_with x h z true (call.Width w) e = absurd (none-some z e)
begins_with x h z true (call.Put a b) e = absurd (none-some z e)
begins_with x h z true (call.Take a b) e = absurd (none-some z e)
begins_with x h z true call.Check e = absurd (none-some z e)
begins_with x h z true (call.Load y) e = let same : short y ≡ z = cc in ap (λ d. Some (begun x h d)) same
begins_with x h z true call.Tick e = absurd (none-some z e)
begins_with x h z true call.Abandon e = absurd (none-some z e)

-- after the load x of z, the last run is that of z
run_begins : (x : Event) (h : History) (z : Elem) → loaded x ≡ Some z → run (x ∷ h) ≡ Some (begun x h z)
run_begins x h z e = begins_with x h z (accepted x.answer) x.call e

loads_not_abandons : (b : Bool) (c : Call) (z : Elem) → cond b (element_of c) None ≡ Some z → whole (Some c) ≡ true
loads_not_abandons false c z e = absurd (none-some z e)
loads_not_abandons true (call.Width w) z e = refl
loads_not_abandons true (call.Put a b) z e = refl
loads_not_abandons true (call.Take a b) z e = refl
loads_not_abandons true call.Check z e = refl
loads_not_abandons true (call.Load y) z e = refl
loads_not_abandons true call.Tick z e = refl
loads_not_abandons true call.Abandon z e = absurd (none-some z e)

-- the run r with ticks that answer ds
goes : List Elem → Run → Run
goes [] r = r
goes (d ∷ ds) r = goes ds (closing (tick_of d (stands_before ds)) (ticking (tick_of d (stands_before ds)) r))

run_goes : (ds : List Elem) (h : History) (r : Run) → run h ≡ Some r → run (ticked ds h) ≡ Some (goes ds r)
unfolding goes
run_goes [] h r e = e
run_goes (d ∷ ds) h r e =
    let x = tick_of d (stands_before ds) in
    run_goes ds (x ∷ h) (closing x (ticking x r)) (ap (λ o. option_map (closing x) (option_map (ticking x) o)) e)

goes_element : (ds : List Elem) (r : Run) → (goes ds r).element ≡ r.element
unfolding goes
goes_element [] r = refl
goes_element (d ∷ ds) r = goes_element ds _

goes_before : (ds : List Elem) (r : Run) → (goes ds r).before ≡ r.before
unfolding goes
goes_before [] r = refl
goes_before (d ∷ ds) r = goes_before ds _

goes_digits : (ds : List Elem) (r : Run) → (goes ds r).digits ≡ r.digits ++ ds
unfolding goes
goes_digits [] r = sym (append-nil r.digits)
goes_digits (d ∷ ds) r = goes_digits ds _ ∙ append_assoc r.digits (d ∷ []) ds

-- a run that has closed stays closed by the same call
goes_closed : (ds : List Elem) (r : Run) (c : Call) → r.closed ≡ Some c → (goes ds r).closed ≡ Some c
unfolding goes
goes_closed [] r c e = e
goes_closed (d ∷ ds) r c e = goes_closed ds _ c (ap (λ o. first_some o (cond (running (stands_before ds)) None (Some call.Tick))) e)

-- a run that is on closes with its last tick
goes_closes : (d : Elem) (ds : List Elem) (r : Run) → r.closed ≡ None → whole (goes (d ∷ ds) r).closed ≡ true
unfolding goes
goes_closes d [] r e = ap (λ o. whole (first_some o (Some call.Tick))) e
goes_closes d (f ∷ ds) r e = goes_closes f ds _ (ap (λ o. first_some o None) e)

-- after ticks that answer ds, of which there are some if the load left a run on, the run has closed unabandoned
module _ (x : Event) (h : History) (z : Elem) (is : loaded x ≡ Some z) where
  run_closes : (s : Standing) → x.standing ≡ s → (ds : List Elem) → (s ≡ standing.Running → ds ≡ [] → ⊥) → whole (goes ds (begun x h z)).closed ≡ true
  unfolding begun closed_by goes
  run_closes standing.Draft e ds n = ap whole (goes_closed ds (begun x h z) x.call (ap (λ s. closed_by s x.call) e)) ∙ loads_not_abandons (accepted x.answer) x.call z is
  run_closes standing.Cleared e ds n = ap whole (goes_closed ds (begun x h z) x.call (ap (λ s. closed_by s x.call) e)) ∙ loads_not_abandons (accepted x.answer) x.call z is
  run_closes standing.Barred e ds n = ap whole (goes_closed ds (begun x h z) x.call (ap (λ s. closed_by s x.call) e)) ∙ loads_not_abandons (accepted x.answer) x.call z is
  run_closes standing.Running e [] n = absurd (n refl refl)
  run_closes standing.Running e (d ∷ ds) n = goes_closes d ds (begun x h z) (ap (λ s. closed_by s x.call) e)

  -- what holds then of the unit v
  pub record RanOut {E C : Type 0} (k : Setting) (M : Machine E C) (v : View E) (ds : List Elem) : Type 0 where
    pub expansion : Expands k.ring (width h) (Holding h) z ds
    pub ticks : v.ticks ≡ length ds
    pub total : M.total_of v.engine ≡ act (M.meaning v.engine) z (M.meaning v.engine).start

  pub ran_out : {E C : Type 0} (k : Setting) (M : Machine E C) (e : E) (v : View E) (ds : List Elem) → After k M e (ticked ds (x ∷ h)) v → (stood (ticked ds (x ∷ h)) ≡ standing.Running → ⊥) → RanOut k M v ds
  unfolding begun
  ran_out k M e v ds a off =
      let r = goes ds (begun x h z) in
      let at : run (ticked ds (x ∷ h)) ≡ Some r = run_goes ds (x ∷ h) (begun x h z) (run_begins x h z is) in
      let ran : Ran k M r v = subst (λ o. MatchOption o (Idle k M e v) (λ q. Ran k M q v)) at a.ran in
      let some : x.standing ≡ standing.Running → ds ≡ [] → ⊥ = λ s n. off (ap (λ l. stood (ticked l (x ∷ h))) n ∙ s) in
      let closed : whole r.closed ≡ true = run_closes x.standing refl ds some in
      let same_digits : r.digits ≡ ds = goes_digits ds (begun x h z) in
      let same_element : r.element ≡ z = goes_element ds (begun x h z) in
      let same_before : r.before ≡ h = goes_before ds (begun x h z) in
      record {
        expansion = subst (λ b. Expands k.ring (width b) (Holding b) z ds) same_before (subst (λ y. Expands k.ring (width r.before) (Holding r.before) y ds) same_element (subst (λ l. Expands k.ring (width r.before) (Holding r.before) r.element l) same_digits (ran.all closed)));
        ticks = ran.told ∙ ap length same_digits;
        total = ran.done closed ∙ ap (λ y. act (M.meaning v.engine) y (M.meaning v.engine).start) same_element;
      }

nothing_loaded : (b : Bool) (z : Elem) → cond b None None ≡ Some z → ⊥
nothing_loaded true z e = none-some z e
nothing_loaded false z e = none-some z e

module _ {E C : Type 0} (k : Setting) (M : Machine E C) (v w : View E) where
  -- an accepted load leaves the unit cleared or running
  load_leaves : (z : Elem) (c : Call) (a : Answer) → cond (accepted a) (element_of c) None ≡ Some z → Tells k M v w c a → cleared w.standing ≡ true
  load_leaves z (call.Width n) a e t = absurd (nothing_loaded (accepted a) z e)
  load_leaves z (call.Put x y) a e t = absurd (nothing_loaded (accepted a) z e)
  load_leaves z (call.Take x y) a e t = absurd (nothing_loaded (accepted a) z e)
  load_leaves z call.Check a e t = absurd (nothing_loaded (accepted a) z e)
  load_leaves z (call.Load y) a e t = go t.0 t.1 t.2
    where
      go : (r : Result (Unit {0}) Refusal) → a ≡ answer (λ _. answers.Loaded) r → MatchResult r (λ _. Loads k M v w y) (Down k M v w (call.Load y)) → cleared w.standing ≡ true
      go (Ok u) q x = closes_cleared (short y) w.standing x.stands
      go (Err u) q x = absurd (none-some z (sym (ap (λ b. cond (accepted b) (element_of (call.Load y)) None) q) ∙ e))
  load_leaves z call.Tick a e t = absurd (nothing_loaded (accepted a) z e)
  load_leaves z call.Abandon a e t = absurd (nothing_loaded (accepted a) z e)

tick_lines_more : (ds : List Elem) (d : Elem) → tick_lines ds ++ tick_line d.x d.y ≡ tick_lines (ds ++ d ∷ [])
tick_lines_more [] d = sym (append-nil (tick_line d.x d.y))
tick_lines_more (f ∷ ds) d = append_assoc (tick_line f.x f.y) (tick_lines ds) (tick_line d.x d.y) ∙ ap (λ l. tick_line f.x f.y ++ l) (tick_lines_more ds d)

-- cleared or running, and not running
off_cleared : (s : Standing) → cleared s ≡ true → (s ≡ standing.Running → ⊥) → s ≡ standing.Cleared
off_cleared standing.Draft e n = absurd (false≢true e)
off_cleared standing.Cleared e n = refl
off_cleared standing.Barred e n = absurd (false≢true e)
off_cleared standing.Running e n = absurd (n refl)

-- how far a run has come, from the load x after h: the digits ticked and printed, and the history now
module _ {K : Type 0} (held : K → Option (List ℕ)) (k : Setting) (e : ResidueEngine) (h : History) (x : Event) where
  pub record Course (w : View ResidueEngine) (a b : K) : Type 0 where
    pub digits : List Elem
    pub past : History
    pub comes : Comes k residue_machine e past w
    pub left : cleared (stood past) ≡ true
    pub chain : (more : List Elem) → stood past ≡ stands_before more → ticked more past ≡ ticked (digits ++ more) (x ∷ h)
    pub given : Given held a b (tick_lines digits)

  pub course_none : (w : View ResidueEngine) (a : K) (z : Elem) → loaded x ≡ Some z → Comes k residue_machine e (x ∷ h) w → Course w a a
  course_none w a z is c = record {
    digits = [];
    past = x ∷ h;
    comes = c;
    left = subst (λ s. cleared s ≡ true) (sym c.3) (load_leaves k residue_machine c.0 w z x.call x.answer is c.2);
    chain = λ more s. refl;
    given = given_none held a;
  }

  pub course_more : (v w : View ResidueEngine) (a b f : K) (q : Course v a b) → Ticked held k v w b f e q.past → Course w a f
  course_more v w a b f q t =
      let d = t.digit in
      let s = t.stands in
      record {
        digits = q.digits ++ d ∷ [];
        past = tick_of d s ∷ q.past;
        comes = t.comes;
        left = t.left;
        chain = λ more at.
            ap (λ y. ticked more (tick_of d y ∷ q.past)) at
            ∙ q.chain (d ∷ more) t.on
            ∙ ap (λ l. ticked l (x ∷ h)) (sym (append_assoc q.digits (d ∷ []) more));
        given = subst (Given held a f) (tick_lines_more q.digits d) (given_then held a b f (tick_lines q.digits) (tick_line d.x d.y) q.given t.given);
      }

  -- where no run is on, the ticks are those of the digits
  pub course_past : (w : View ResidueEngine) (a b : K) (q : Course w a b) → (stood q.past ≡ standing.Running → ⊥) → q.past ≡ ticked q.digits (x ∷ h)
  course_past w a b q off = q.chain [] (off_cleared (stood q.past) q.left off) ∙ ap (λ l. ticked l (x ∷ h)) (append-nil q.digits)
