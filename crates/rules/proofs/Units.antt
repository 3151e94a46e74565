-- Units of which the theorem holds tell the same after the same history.
use Rattle.std.proofs.Common.{◌≡◌, ℕ, zero, suc, Some, None, Option, sym, ap, ◌∙◌, subst, arith, MatchOption}
use Rattle.ring.specs.Elem.{Elem, add, sub}
use Rattle.ring.specs.System.{System, Lawful, mul, pow}
use Rattle.ring.specs.Expansion.{weighted}
use Rattle.ring.proofs.Elements.{add_sub_left, mul_assoc, mul_one}
use Rattle.ring.proofs.Expansions.{cancel_β}
use Rattle.engine.specs.Meaning.{act}
use Rattle.rules.specs.Views.{Setting, Machine, ring_of, View}
use Rattle.rules.specs.History.{History, run, Run, Ran, Idle, Answers, After}
use Rattle.rules.specs.Theorems.{Alike, UnitsAgree}
use Rattle.rules.proofs.Lists.{sub_length}
use Rattle.rules.proofs.Alike.{agree}

cancel_power : (s : System) → Lawful s → (j : ℕ) (a b : Elem) → mul s (pow s s.β j) a ≡ mul s (pow s s.β j) b → a ≡ b
cancel_power s g zero a b e = sym (mul_one s a) ∙ e ∙ mul_one s b
cancel_power s g (suc j) a b e =
    let P = pow s s.β j in
    cancel_power s g j a b (cancel_β s g (mul s P a) (mul s P b) (sym (mul_assoc s s.β P a) ∙ e ∙ mul_assoc s s.β P b))

cancel_sum : (a b c : Elem) → add a b ≡ add a c → b ≡ c
cancel_sum a b c e = sym (add_sub_left a b) ∙ ap (λ u. sub u a) e ∙ add_sub_left a c

module _ {E F C : Type 0} (k : Setting) (g : Lawful k.ring) (M : Machine E C) (N : Machine F C) (e : E) (f : F) (means : M.meaning e ≡ N.meaning f) (totals : M.total_of e ≡ N.total_of f) (v : View E) (w : View F) where
  record Told : Type 0 where
    ticks : v.ticks ≡ w.ticks
    remainder : v.remainder ≡ w.remainder
    total : M.total_of v.engine ≡ N.total_of w.engine

  told : M.meaning v.engine ≡ N.meaning w.engine → (o : Option Run) → MatchOption o (Idle k M e v) (λ r. Ran k M r v) → MatchOption o (Idle k N f w) (λ r. Ran k N r w) → Told
  told same None x y = record {
    ticks = x.ticks ∙ sym y.ticks;
    remainder = x.remainder ∙ sym y.remainder;
    total = ap M.total_of x.engine ∙ totals ∙ sym (ap N.total_of y.engine);
  }
  told same (Some r) x y = record {
    ticks = count;
    remainder = cancel_power k.ring g w.ticks v.remainder w.remainder (cancel_sum (weighted k.ring r.digits) (mul k.ring (pow k.ring k.ring.β w.ticks) v.remainder) (mul k.ring (pow k.ring k.ring.β w.ticks) w.remainder) (ap (λ j. add (weighted k.ring r.digits) (mul k.ring (pow k.ring k.ring.β j) v.remainder)) (sym count) ∙ sym x.sum ∙ y.sum));
    total = x.total ∙ ap (λ m. act m (weighted k.ring r.digits) m.start) same ∙ sym y.total;
  }
    where
      count : v.ticks ≡ w.ticks
      count = x.told ∙ sym y.told

  alike : (h : History) → After k M e h v → After k N f h w → Alike M N v w
  alike h a b =
      let t = told (a.meaning ∙ means ∙ sym b.meaning) (run h) a.ran b.ran in
      let one = sub_length v.digits w.digits a.once (λ d m. b.holds d ∙ sym (a.holds d) ∙ m) in
      let other = sub_length w.digits v.digits b.once (λ d m. a.holds d ∙ sym (b.holds d) ∙ m) in
      record {
        width = a.wide ∙ sym b.wide;
        digits = λ d. a.holds d ∙ sym (b.holds d);
        number = omega arith;
        standing = a.stands ∙ sym b.stands;
        ticks = t.ticks;
        remainder = t.remainder;
        verdict = a.verdict ∙ sym b.verdict;
        total = t.total;
      }

pub units_agree : {E F C : Type 0} → UnitsAgree E F C
units_agree k l M N e f means totals g h v w a b calls =
    let same = agree k l (ring_of (N.meaning f)) g h (subst (λ m. Answers k (ring_of m) g) means a.answers) b.answers calls in
    (same, alike k l M N e f means totals v w g a (subst (λ x. After k N f x w) (sym same) b))
