-- What a unit's calls make of what its set answers.
use Rattle.std.proofs.Common.{◌≡◌, ℕ, zero, suc, ◌+◌, ◌<◌, ◌≤◌, cond, ◌⊎◌, List, [], ◌∷◌, ◌++◌, length, get_or, ℤ, None, Option, sym, ap, ◌∙◌, subst, inl, inr, arith}
use Rattle.std.specs.List.{ContainsAt as Has, remove}
use Rattle.std.proofs.ByRecursion.{has_get_or}
use Rattle.std.proofs.lemmas.List.Edits.{length-remove}
use Rattle.std.proofs.lemmas.List.{length_push}
use Rattle.ring.specs.Elem.{Elem, 𝟘}
use Rattle.refusals.specs.declared.Refusal.{Refusal}
use Rattle.refusals.specs.declared.Refusal.TheVariants.{Doubled}
use Rattle.digits.specs.declared.verdict.Verdict.{Verdict}
use Rattle.engine.specs.Meaning.{elem}
use Rattle.sets.specs.Changes.{Unput, Puttable, Added, Taken}
use Rattle.sets.specs.Held.{held, width_of}
use Rattle.sets.specs.Lists.{Different}
use Rattle.sets.specs.declared.table.DigitSet.{DigitSet}
use Rattle.rules.specs.Lists.{without}
use Rattle.rules.specs.Views.{Setting, Machine, View}
use Rattle.rules.specs.Table.{Uppermost, Unfit}
use Rattle.rules.specs.Told.{rows_at, redrawn, Puts, DownPut, Takes}
use Rattle.rules.specs.declared.calls.Standing.{Standing}
use Rattle.rules.specs.declared.calls.Standing.TheVariants.{Running, Draft}
use Rattle.rules.specs.declared.calls.Call.TheVariants.{Put}
use Rattle.rules.proofs.Lists.{alike_same, alike_other}

-- z is taken from its first place
removed_without : (ds : List Elem) (k : ℕ) (z : Elem) → k < length ds → get_or ds k 𝟘 ≡ z → ((j : ℕ) → j < k → get_or ds j 𝟘 ≡ z → ⊥) → remove ds k ≡ without ds z
removed_without [] k z l e n = absurd (omega arith)
removed_without (d ∷ ds) zero z l e n = sym (ap (λ t. cond t ds (d ∷ without ds z)) (alike_same d z e))
removed_without (d ∷ ds) (suc k) z l e n =
    ap (λ xs. d ∷ xs) (removed_without ds k z (omega arith) e (λ j h. n (suc j) (omega arith)))
    ∙ sym (ap (λ t. cond t ds (d ∷ without ds z)) (alike_other d z (n 0 (omega arith))))

module _ {E C : Type 0} (k : Setting) (M : Machine E C) (v w : View E) where
  -- views that differ in width and digits, where those are the same
  drawn : (m n : ℕ) (ds es : List Elem) (s : Standing) (o : Option Verdict) → m ≡ n → ds ≡ es → redrawn k M v w m ds s o ≡ redrawn k M v w n es s o
  drawn m n ds es s o p q = λ i. record { width = p i; digits = q i; standing = s; ticks = v.ticks; remainder = v.remainder; verdict = o; engine = v.engine }

  module _ (idle : v.standing ≡ Running → ⊥) (a b : DigitSet) (wide : v.width ≡ width_of a) (holds : v.digits ≡ held a) (x y : ℤ) where
    put_fits : Puttable k.ring v.width v.digits (elem x y) → Unfit (rows_at k M v w (Put x y))
    unfolding Puttable
    put_fits p = (idle, (p.0, (p.1.0, (p.1.1.0, tt))))

    put_down : (e : Refusal) → length v.digits ≤ 128 → Unput k.ring v.width v.digits (elem x y) e →
        Uppermost (rows_at k M v w (Put x y)) e ⊎ ((e ≡ Doubled) × (length v.digits ≡ 128) × Unfit (rows_at k M v w (Put x y)))
    unfolding Unput
    put_down e l (inl p) = inl (inr (idle, inl p))
    put_down e l (inr (p, inl q)) = inl (inr (idle, inr (p, inl q)))
    put_down e l (inr (p, inr (q, inl r))) = inl (inr (idle, inr (p, inr (q, inl r))))
    put_down e l (inr (p, inr (q, inr (r, inl s)))) = inr (s.1, omega (arith, s.0), (idle, (p, (q, (r, tt)))))
    put_down e l (inr (p, inr (q, inr (r, inr s)))) = absurd s.1

    pub put_refused : (e : Refusal) → length v.digits ≤ 128 → Unput k.ring v.width v.digits (elem x y) e → w ≡ v → DownPut k M v w x y e
    put_refused e l u q = record { why = put_down e l u; same = q }

    pub puts : (n : ℕ) → Puttable k.ring v.width v.digits (elem x y) → Added a b (elem x y) n → w ≡ redrawn k M v w (width_of b) (held b) Draft None → Puts k M v w x y n
    puts n p c e = record {
      fits = put_fits p;
      number = c.number ∙ ap length (c.more ∙ ap (λ ds. ds ++ elem x y ∷ []) (sym holds)) ∙ length_push v.digits (elem x y);
      after = e ∙ drawn (width_of b) v.width (held b) (v.digits ++ elem x y ∷ []) Draft None (c.width ∙ sym wide) (c.more ∙ ap (λ ds. ds ++ elem x y ∷ []) (sym holds));
    }

    pub takes : (n : ℕ) → Different (held a) → Taken a b (elem x y) n → w ≡ redrawn k M v w (width_of b) (held b) Draft None → Takes k M v w x y n
    takes n once c e =
        let l = c.within in
        let there : Has (held a) (elem x y) = subst (Has (held a)) c.stands (has_get_or (held a) c.place 𝟘 l) in
        let less : held b ≡ without v.digits (elem x y) =
        c.less ∙ removed_without (held a) c.place (elem x y) l c.stands (λ j h q. once j c.place h l (q ∙ sym c.stands)) ∙ ap (λ ds. without ds (elem x y)) (sym holds) in
        record {
          fits = (idle, ((λ f. f (subst (λ ds. Has ds (elem x y)) (sym holds) there)), tt));
          number = ap (λ j. j + 1) (c.number ∙ ap length c.less) ∙ length-remove (held a) c.place l ∙ ap length (sym holds);
          after = e ∙ drawn (width_of b) v.width (held b) (without v.digits (elem x y)) Draft None (c.width ∙ sym wide) less;
        }
