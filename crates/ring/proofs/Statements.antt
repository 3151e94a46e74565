-- The theorems as they are stated: for every lawful system and every width from 1.
use Rattle.std.proofs.Common.{◌≡◌, ℕ, zero, suc, ◌+◌, ◌-◌, ◌*◌, ◌^◌, ◌≤◌, List, [], ◌∷◌, sym, ap, ◌∙◌, subst, ⊎_elim, arith}
use Rattle.std.specs.List.{ContainsAt as Has}
use Rattle.ring.specs.Elem.{Elem, 𝟘}
use Rattle.ring.specs.Class.{Even, Full}
use Rattle.ring.specs.System.{classes}
use Rattle.ring.specs.Expansion.{Expands}
use Rattle.ring.specs.Algebra.{RingLaws, NormLaws, BaseCancels}
use Rattle.ring.specs.Theorems.{OneExpansion, Begins, ExpansionBegins, TrailReachesZero, SearchBound, ReturnsAwayFromZero, LeadAndPeriod, BoxedTrailReturns, OneLeadAndPeriod, OneVerdict, ClassesNumber, FullByNumber}
use Rattle.ring.specs.Bounds.{StaysWithin, NormFalls, LengthBound, LengthFits, ReturnsSoon}
use Rattle.ring.proofs.Elements.{add_comm, add_assoc, add_zero, add_sub, mul_comm, mul_assoc, mul_one, mul_add, mul_zero, norm_mul}
use Rattle.ring.proofs.Norms.{norm_at_zero, norm_positive, norm_x, norm_y}
use Rattle.ring.proofs.Expansions.{cancel_β}
use Rattle.ring.proofs.Steps.{expands_step, unique}
use Rattle.ring.proofs.Bound.{search_bound}
use Rattle.ring.proofs.Trails.{expansion_iff, steady, zero_stays, lead_period, never}
use Rattle.ring.proofs.Counting.{classes_number, full_by_number}
use Rattle.ring.proofs.Magnitudes.{loaded, step, coordinates, difference}
use Rattle.ring.proofs.Falling.{norm_falls}
use Rattle.ring.proofs.Rounds.{boxed_returns, returns_soon, one_lead}
use Rattle.ring.proofs.Lengths.{length_by_list, length_fits}
use Rattle.ring.proofs.Verdicts.{one_verdict}

pub ring_laws : RingLaws
ring_laws s a b c = record {
  add_comm = add_comm a b;
  add_assoc = add_assoc a b c;
  add_zero = add_zero a;
  add_sub = add_sub a b;
  mul_comm = mul_comm s a b;
  mul_assoc = mul_assoc s a b c;
  mul_one = mul_one s a;
  mul_add = mul_add s a b c;
  norm_mul = norm_mul s a b;
}

pub norm_laws : NormLaws
norm_laws s g a = record { at_zero = norm_at_zero s; positive = norm_positive s g a; x_bound = norm_x s g a; y_bound = norm_y s g a }

pub base_cancels : BaseCancels
base_cancels = cancel_β

pub one_expansion_stands : OneExpansion
one_expansion_stands s g zero h = absurd (omega arith)
one_expansion_stands s g (suc v) h = λ ds full. unique s g v (Has ds) full.odd full.one

pub expansion_begins : ExpansionBegins
expansion_begins s g zero h = absurd (omega arith)
expansion_begins s g (suc v) h = by
  where
    by : (ds : List Elem) → Full s (suc v) (Has ds) → (z : Elem) (es : List Elem) → ¬ (Even s z) → Expands s (suc v) (Has ds) z es → Begins s (suc v) ds z es
    by ds full z [] odd x = absurd (odd (subst (Even s) x.total (𝟘, mul_zero s s.β)))
    by ds full z (e ∷ es) odd x = ⊎_elim
        (λ d. absurd (odd d.0))
        (λ d. record {
          digit = (d.1, d.2);
          zeros = λ j o l. ⊎_elim (λ z'. absurd (full.odd e d.1 (subst (Even s) (sym z') (𝟘, mul_zero s s.β)))) (λ z'. z') (x.sparse 0 j o (omega arith));
        })
        (expands_step s g v (Has ds) full.odd z e es x)

pub trail_reaches_zero : TrailReachesZero
trail_reaches_zero s g zero h = absurd (omega arith)
trail_reaches_zero s g (suc v) h = λ ds. expansion_iff s g v (Has ds)

pub search_bound_stands : SearchBound
search_bound_stands s g zero h = absurd (omega arith)
search_bound_stands s g (suc v) h = λ ds. search_bound s g v (Has ds)

pub returns_away_from_zero : ReturnsAwayFromZero
returns_away_from_zero s g zero h = absurd (omega arith)
returns_away_from_zero s g (suc v) h = λ ds full f t i r. never f (steady s g v (Has ds) full f t) (zero_stays s g v (Has ds) full f t) i r.0 r.1 r.2

pub lead_and_period : LeadAndPeriod
lead_and_period s g zero h = absurd (omega arith)
lead_and_period s g (suc v) h = λ ds full f t. lead_period f (steady s g v (Has ds) full f t)

pub boxed_trail_returns : BoxedTrailReturns
boxed_trail_returns s g zero h = absurd (omega arith)
boxed_trail_returns s g (suc v) h = λ ds full f t B inside.
    let r = boxed_returns f (steady s g v (Has ds) full f t) (B - 1) (λ k. let l = inside k in (omega arith, omega arith)) in
    let e : 2 * (B - 1) + 1 ≡ 2 * B - 1 = let l = inside 0 in omega arith in
    (r.0, r.1, r.2, subst (λ n. r.0 + r.1 ≤ n * n) e r.3)

pub one_lead_and_period : OneLeadAndPeriod
one_lead_and_period = one_lead

pub one_verdict_stands : OneVerdict
one_verdict_stands s g zero h = absurd (omega arith)
one_verdict_stands s g (suc v) h = λ ds. one_verdict s g v (Has ds)

-- the exponent w − 1, at the width suc v
exponent : (p v : ℕ) → (p - 1) * p ^ v ≡ classes p (suc v)
exponent p v = ap (λ k. (p - 1) * p ^ k) (omega arith)

pub classes_number_stands : ClassesNumber
classes_number_stands s g zero h = absurd (omega arith)
classes_number_stands s g (suc v) h = let r = classes_number s g v in (r.0, r.1, r.2, r.3 ∙ exponent s.p v)

pub full_by_number_stands : FullByNumber
full_by_number_stands s g zero h = absurd (omega arith)
full_by_number_stands s g (suc v) h = λ ds a. let r = full_by_number s g v ds a in (λ e. r.0 (e ∙ sym (exponent s.p v)), λ f. r.1 f ∙ exponent s.p v)

pub stays_within : StaysWithin
stays_within s g L l = record { loaded = loaded s g L; step = λ w ds. step s g L l w (Has ds); coordinates = coordinates s g L l; difference = difference s g L l }

pub norm_falls_stands : NormFalls
norm_falls_stands s g w ds D some small f t = norm_falls s g w D (Has ds) small f t some

pub length_bound_stands : LengthBound
length_bound_stands s g zero h = absurd (omega arith)
length_bound_stands s g (suc v) h = λ ds. length_by_list s g v (Has ds)

pub length_fits_stands : LengthFits
length_fits_stands s g zero h = absurd (omega arith)
length_fits_stands s g (suc v) h = λ ds. length_fits s g v (Has ds)

pub returns_soon_stands : ReturnsSoon
returns_soon_stands s g zero h = absurd (omega arith)
returns_soon_stands s g (suc v) h = λ ds. returns_soon s g v (Has ds)
