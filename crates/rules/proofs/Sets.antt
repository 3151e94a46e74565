-- Sets of digits with the same members have the same steps, expansions, verdicts and rows.
use Rattle.std.proofs.Common.{◌≡◌, ℕ, ◌⊎◌, List, [], ◌∷◌, refl, ◌∙◌, inl, inr, ⊎_elim}
use Rattle.std.proofs.ByRecursion.{All-weaker}
use Rattle.ring.specs.Elem.{Elem, 𝟘}
use Rattle.ring.specs.System.{System}
use Rattle.ring.specs.Class.{Full}
use Rattle.ring.specs.Expansion.{Expands, HasExpansion}
use Rattle.ring.specs.Trail.{Step, Trail}
use Rattle.ring.specs.Verdict.{Verdict, cleared, barred, Holds}
use Rattle.refusals.specs.declared.Refusal.{Refusal}
use Rattle.rules.specs.Views.{Setting, EngineRing}
use Rattle.rules.specs.Table.{Row, Uppermost, Unfit, Classed, rows}
use Rattle.rules.specs.declared.calls.Standing.{Standing}
use Rattle.rules.specs.declared.calls.Call.{Call}
use Rattle.rules.specs.declared.calls.Call.TheVariants.{Width, Put, Take, Check, Load, Tick, Abandon}
use Rattle.engine.specs.Meaning.{elem}

-- where R has what S has
module _ (s : System) (w : ℕ) (S R : Elem → Type 0) (f : (d : Elem) → S d → R d) where
  pub expands_over : (z : Elem) (es : List Elem) → Expands s w S z es → Expands s w R z es
  expands_over z es x = record {
    total = x.total;
    entries = All-weaker (λ e. (e ≡ 𝟘) ⊎ S e) (λ e. (e ≡ 𝟘) ⊎ R e) (λ e. ⊎_elim inl (λ m. inr (f e m))) es x.entries;
    last = x.last;
    sparse = x.sparse;
  }

  pub expansion_over : (z : Elem) → HasExpansion s w S z → HasExpansion s w R z
  expansion_over z x = (x.0, expands_over z x.0 x.1)

  pub step_over : (z d r : Elem) → Step s w S z d r → Step s w R z d r
  step_over z d r (inl h) = inl h
  step_over z d r (inr h) = inr (h.0, f d h.1, h.2, h.3)

  trail_over : (t : ℕ → Elem) → Trail s w S t → Trail s w R t
  trail_over t h i = ((h i).0, step_over (t i) (h i).0 _ (h i).1)

  classed_over : (d : Elem) → Classed s w S d → Classed s w R d
  classed_over d c = (c.0, f c.0 c.1, c.2)

-- where they have the same
module _ (s : System) (w : ℕ) (S R : Elem → Type 0) (f : (d : Elem) → S d → R d) (b : (d : Elem) → R d → S d) where
  pub full_over : Full s w S → Full s w R
  full_over full = record {
    odd = λ d m. full.odd d (b d m);
    some = λ z o. let r = full.some z o in (r.0, f r.0 r.1, r.2);
    one = λ d e m n. full.one d e (b d m) (b e n);
  }

  pub holds_over : (v : Verdict) → Holds s w S v → Holds s w R v
  holds_over cleared h = λ z. expansion_over s w S R f z (h z)
  holds_over (barred a l p) h = record {
    none = λ x. h.none (expansion_over s w R S b a x);
    earlier = λ z o. expansion_over s w S R f z (h.earlier z o);
    trail = (h.trail.0, trail_over s w S R f h.trail.0 h.trail.1, h.trail.2, h.trail.3);
  }

-- rows that fit alike, for the same reasons
abbrev Paired : List Row → List Row → Type 0
Paired [] [] = Unit {0}
Paired [] (q ∷ qs) = ⊥
Paired (r ∷ rs) [] = ⊥
Paired (r ∷ rs) (q ∷ qs) = (r.fits → q.fits) × (q.fits → r.fits) × (r.reason ≡ q.reason) × Paired rs qs

paired_unfit : (rs qs : List Row) → Paired rs qs → Unfit rs → Unfit qs
paired_unfit [] [] p u = tt
paired_unfit [] (q ∷ qs) p u = absurd p
paired_unfit (r ∷ rs) [] p u = absurd p
paired_unfit (r ∷ rs) (q ∷ qs) p u = ((λ x. u.0 (p.1 x)), paired_unfit rs qs p.3 u.1)

paired_uppermost : (rs qs : List Row) (e : Refusal) → Paired rs qs → Uppermost rs e → Uppermost qs e
paired_uppermost [] [] e p u = u
paired_uppermost [] (q ∷ qs) e p u = absurd p
paired_uppermost (r ∷ rs) [] e p u = absurd p
paired_uppermost (r ∷ rs) (q ∷ qs) e p (inl u) = inl (p.0 u.0, u.1 ∙ p.2)
paired_uppermost (r ∷ rs) (q ∷ qs) e p (inr u) = inr ((λ x. u.0 (p.1 x)), paired_uppermost rs qs e p.3 u.1)

self_paired : (rs : List Row) → Paired rs rs
self_paired [] = tt
self_paired (r ∷ rs) = ((λ x. x), (λ x. x), refl, self_paired rs)

module _ (k : Setting) (m : EngineRing) (w : ℕ) (S R : Elem → Type 0) (s : Standing) (f : (d : Elem) → S d → R d) (b : (d : Elem) → R d → S d) where
  paired : (c : Call) → Paired (rows k m w S s c) (rows k m w R s c)
  paired (Width n) = self_paired (rows k m w R s (Width n))
  paired (Put x y) = ((λ e. e), (λ e. e), refl, ((λ e. e), (λ e. e), refl, ((λ e. e), (λ e. e), refl, (classed_over k.ring w S R f (elem x y), classed_over k.ring w R S b (elem x y), refl, tt))))
  paired (Take x y) = ((λ e. e), (λ e. e), refl, ((λ n m. n (b (elem x y) m)), (λ n m. n (f (elem x y) m)), refl, tt))
  paired Check = ((λ e. e), (λ e. e), refl, ((λ n x. n (full_over k.ring w R S b f x)), (λ n x. n (full_over k.ring w S R f b x)), refl, tt))
  paired (Load z) = self_paired (rows k m w R s (Load z))
  paired Tick = self_paired (rows k m w R s Tick)
  paired Abandon = self_paired (rows k m w R s Abandon)

  pub unfit_over : (c : Call) → Unfit (rows k m w S s c) → Unfit (rows k m w R s c)
  unfit_over c = paired_unfit (rows k m w S s c) (rows k m w R s c) (paired c)

  pub uppermost_over : (c : Call) (e : Refusal) → Uppermost (rows k m w S s c) e → Uppermost (rows k m w R s c) e
  uppermost_over c e = paired_uppermost (rows k m w S s c) (rows k m w R s c) e (paired c)
