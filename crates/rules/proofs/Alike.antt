-- The answers fix the log: two histories of the same calls that keep them are the same.
use Rattle.std.proofs.Common.{◌≡◌, ℕ, zero, suc, ◌<◌, ◌≤◌, Bool, true, false, cond, ◌⊎◌, List, [], ◌∷◌, ◌++◌, Some, None, Option, unwrap_or, sym, refl, ap, ◌∙◌, subst, inl, inr, ⊎_elim, arith, MatchOption}
use Rattle.std.proofs.lemmas.Bool.{both_ways}
use Rattle.ring.specs.Elem.{Elem}
use Rattle.ring.specs.System.{Lawful}
use Rattle.refusals.specs.declared.Refusal.{Refusal}
use Rattle.numbers.specs.Meaning.{short}
use Rattle.rules.specs.Lists.{Number}
use Rattle.rules.specs.Views.{Setting, EngineRing}
use Rattle.rules.specs.Table.{Row, Uppermost, Unfit}
use Rattle.rules.specs.Told.{left, Closes}
use Rattle.rules.specs.History.{History, stood, accepted, first_some, latest, width_of, width, held, Holding, Run, run, Goes, Gives, rows_after, Answered, Answers}
use Rattle.rules.specs.Comes.{event}
use Rattle.rules.specs.Theorems.{Agree}
use Rattle.rules.specs.declared.calls.Standing.{Standing}
use Rattle.rules.specs.declared.calls.Standing.TheVariants as standing
use Rattle.rules.specs.declared.calls.Answer.{Answer}
use Rattle.rules.specs.declared.calls.Answer.TheVariants.{Classes, Held, Judged, Loaded, Digit, Abandoned, Refused}
use Rattle.rules.specs.declared.calls.Call.{Call}
use Rattle.rules.specs.declared.calls.Call.TheVariants.{Width, Put, Take, Check, Load, Tick, Abandon}
use Rattle.rules.specs.declared.calls.Event.{Event}
use Rattle.rules.proofs.Lists.{sub_length}
use Rattle.rules.proofs.Judging.{one_element, verdict_one}

one_reason : (rs : List Row) (d e : Refusal) → Uppermost rs d → Uppermost rs e → d ≡ e
one_reason [] d e p q = absurd p
one_reason (r ∷ rs) d e (inl p) (inl q) = p.1 ∙ sym q.1
one_reason (r ∷ rs) d e (inl p) (inr q) = absurd (q.0 p.0)
one_reason (r ∷ rs) d e (inr p) (inl q) = absurd (p.0 q.0)
one_reason (r ∷ rs) d e (inr p) (inr q) = one_reason rs d e p.1 q.1

not_both : (rs : List Row) (e : Refusal) → Unfit rs → Uppermost rs e → ⊥
not_both [] e p q = q
not_both (r ∷ rs) e p (inl q) = p.0 q.0
not_both (r ∷ rs) e p (inr q) = not_both rs e p.1 q.1

one_number : (D : Elem → Bool) (j k : ℕ) → Number D j → Number D k → j ≡ k
one_number D j k p q =
    let a = sub_length p.0 q.0 p.1 (λ x h. q.2 x ∙ sym (p.2 x) ∙ h) in
    let b = sub_length q.0 p.0 q.1 (λ x h. p.2 x ∙ sym (q.2 x) ∙ h) in
    omega (arith, p.3, q.3)

-- the next digit is the same
next_same : (ds : List Elem) (d e : Elem) (xs ys : List Elem) → (ds ++ d ∷ []) ++ xs ≡ (ds ++ e ∷ []) ++ ys → d ≡ e
next_same [] d e xs ys q = cc
next_same (x ∷ ds) d e xs ys q = next_same ds d e xs ys (cc)

one_closing : (z : Elem) (s t : Standing) → Closes z s → Closes z t → s ≡ t
one_closing z s t (inl p) (inl q) = p.1 ∙ sym q.1
one_closing z s t (inl p) (inr q) = absurd (q.0 p.0)
one_closing z s t (inr p) (inl q) = absurd (p.0 q.0)
one_closing z s t (inr p) (inr q) = p.1 ∙ sym q.1

same_event : (d e : Event) → d.call ≡ e.call → d.answer ≡ e.answer → d.standing ≡ e.standing → d ≡ e
same_event d e p q r = λ i. record { call = p i; answer = q i; standing = r i }

module _ (k : Setting) where
  one_digit : (r : Run) (d e : Elem) (s t : Standing) → Goes k r d s → Goes k r e t → d ≡ e
  one_digit r d e s t p q = next_same r.digits d e p.begins.rest q.begins.rest (q.begins.only _ p.begins.is)

  one_leaving : (r : Run) (d : Elem) (s t : Standing) → Goes k r d s → Goes k r d t → s ≡ t
  one_leaving r d s t p q = ⊎_elim
      (λ x. ⊎_elim (λ y. x.0 ∙ sym y.0) (λ y. absurd (y.1 x.1)) q.leaves)
      (λ x. ⊎_elim (λ y. absurd (x.1 y.1)) (λ y. x.0 ∙ sym y.0) q.leaves)
      p.leaves

  module _ (m : EngineRing) (h : History) where
    abbrev Refuses : Call → Answer → Standing → Type 0
    Refuses c a s = (r : Refusal) × (a ≡ Refused r) × Uppermost (rows_after k m h c) r × (s ≡ stood h)

    abbrev Accepts : Call → Answer → Standing → Type 0
    Accepts c a s = Unfit (rows_after k m h c) × Gives k h (event c a s) c

    either : (c : Call) (a : Answer) (s : Standing) → Answered k m h (event c a s) → Refuses c a s ⊎ Accepts c a s
    either c (Classes n) s p = inr p
    either c (Held n) s p = inr p
    either c (Judged v) s p = inr p
    either c Loaded s p = inr p
    either c (Digit d) s p = inr p
    either c Abandoned s p = inr p
    either c (Refused r) s p = inl (r, refl, p.0, p.1)

    untold : {A : Type 0} (t : Bool) (o : Option A) → first_some (cond t None None) o ≡ o
    untold true o = refl
    untold false o = refl

    width_next : (c : Call) (a : Answer) (s : Standing) → Answered k m h (event c a s) → 1 ≤ width h → 1 ≤ width (event c a s ∷ h)
    width_next (Width n) a s p l = go (accepted a) refl (either (Width n) a s p)
      where
        go : (t : Bool) → accepted a ≡ t → Refuses (Width n) a s ⊎ Accepts (Width n) a s → 1 ≤ unwrap_or (first_some (cond t (Some n) None) (latest (λ e. width_of e.call) h)) 1
        go false e x = l
        go true e (inl x) = absurd (both_ways (accepted a) (ap accepted x.1) e)
        go true e (inr x) = some n x.0.1.0
          where
            some : (j : ℕ) → ((j ≡ 0) ⊎ (k.widest < j) → ⊥) → 1 ≤ j
            some zero f = absurd (f (inl refl))
            some (suc j) f = omega arith
    width_next (Put x y) a s p l = subst (λ o. 1 ≤ unwrap_or o 1) (sym (untold (accepted a) (latest (λ e. width_of e.call) h))) l
    width_next (Take x y) a s p l = subst (λ o. 1 ≤ unwrap_or o 1) (sym (untold (accepted a) (latest (λ e. width_of e.call) h))) l
    width_next Check a s p l = subst (λ o. 1 ≤ unwrap_or o 1) (sym (untold (accepted a) (latest (λ e. width_of e.call) h))) l
    width_next (Load z) a s p l = subst (λ o. 1 ≤ unwrap_or o 1) (sym (untold (accepted a) (latest (λ e. width_of e.call) h))) l
    width_next Tick a s p l = subst (λ o. 1 ≤ unwrap_or o 1) (sym (untold (accepted a) (latest (λ e. width_of e.call) h))) l
    width_next Abandon a s p l = subst (λ o. 1 ≤ unwrap_or o 1) (sym (untold (accepted a) (latest (λ e. width_of e.call) h))) l

  -- the width is at least 1
  pub width_some : (m : EngineRing) (h : History) → Answers k m h → 1 ≤ width h
  width_some m [] p = omega arith
  width_some m (e ∷ h) p = width_next m h e.call e.answer e.standing p.0 (width_some m h p.1)

  module _ (lawful : Lawful k.ring) (m : EngineRing) (h : History) (some : 1 ≤ width h) where
    given : (c : Call) (a x : Answer) (s t : Standing) → Unfit (rows_after k m h c) → Gives k h (event c a s) c → Gives k h (event c x t) c → (a ≡ x) × (s ≡ t)
    given (Width w) a x s t u p q = (p.0 ∙ sym q.0, p.1 ∙ sym q.1)
    given (Put d y) a x s t u p q =
        let e : p.0 ≡ q.0 = one_number (held (event (Put d y) (Held 0) standing.Draft ∷ h)) p.0 q.0 (subst (λ z. Number (held (event (Put d y) z s ∷ h)) p.0) p.1 p.2) (subst (λ z. Number (held (event (Put d y) z t ∷ h)) q.0) q.1 q.2) in
        (p.1 ∙ ap Held e ∙ sym q.1, p.3 ∙ sym q.3)
    given (Take d y) a x s t u p q =
        let e : p.0 ≡ q.0 = one_number (held (event (Take d y) (Held 0) standing.Draft ∷ h)) p.0 q.0 (subst (λ z. Number (held (event (Take d y) z s ∷ h)) p.0) p.1 p.2) (subst (λ z. Number (held (event (Take d y) z t ∷ h)) q.0) q.1 q.2) in
        (p.1 ∙ ap Held e ∙ sym q.1, p.3 ∙ sym q.3)
    given Check a x s t u p q =
        let e : p.0 ≡ q.0 = verdict_one k.ring lawful (width h) some (Holding h) u.1.0 p.0 q.0 p.2 q.2 in
        (p.1 ∙ ap Judged e ∙ sym q.1, p.3 ∙ ap left e ∙ sym q.3)
    given (Load z) a x s t u p q = (p.0 ∙ sym q.0, one_closing (short z) s t p.1 q.1)
    given Tick a x s t u p q =
        let e = go (run h) p.2 q.2 in
        (p.1 ∙ ap Digit e.0 ∙ sym q.1, e.1)
      where
        go : (o : Option Run) → MatchOption o ⊥ (λ r. Goes k r (short p.0) s) → MatchOption o ⊥ (λ r. Goes k r (short q.0) t) → (p.0 ≡ q.0) × (s ≡ t)
        go None f g = absurd f
        go (Some r) f g =
            let e = one_element p.0 q.0 (one_digit r (short p.0) (short q.0) s t f g) in
            (e, one_leaving r (short q.0) s t (subst (λ d. Goes k r (short d) s) e f) g)
    given Abandon a x s t u p q = (p.0 ∙ sym q.0, p.1 ∙ sym q.1)

    one_event : (c : Call) (a x : Answer) (s t : Standing) → Answered k m h (event c a s) → Answered k m h (event c x t) → (a ≡ x) × (s ≡ t)
    one_event c a x s t p q = ⊎_elim
        (λ f. ⊎_elim
        (λ g. (f.1 ∙ ap Refused (one_reason (rows_after k m h c) f.0 g.0 f.2 g.2) ∙ sym g.1, f.3 ∙ sym g.3))
        (λ g. absurd (not_both (rows_after k m h c) f.0 g.0 f.2))
        (either m h c x t q))
        (λ f. ⊎_elim
        (λ g. absurd (not_both (rows_after k m h c) g.0 f.0 g.2))
        (λ g. given c a x s t f.0 f.1 g.1)
        (either m h c x t q))
        (either m h c a s p)

pub agree : Agree
agree k l m [] [] p q e = refl
agree k l m [] (y ∷ g) p q e = let z : ◌≡◌ {A = ℕ} 0 1 = cc in absurd (omega arith)
agree k l m (x ∷ h) [] p q e = let z : ◌≡◌ {A = ℕ} 0 1 = cc in absurd (omega arith)
agree k l m (x ∷ h) (y ∷ g) p q e =
    let calls : x.call ≡ y.call = cc in
    let tails : h ≡ g = agree k l m h g p.1 q.1 (cc) in
    let other : Answered k m h (event x.call y.answer y.standing) = subst (λ c. Answered k m h (event c y.answer y.standing)) (sym calls) (subst (λ f. Answered k m f y) (sym tails) q.0) in
    let same = one_event k l m h (width_some k m h p.1) x.call x.answer y.answer x.standing y.standing p.0 other in
    let head : x ≡ y = same_event x y calls same.0 same.1 in
    λ i. head i ∷ tails i
