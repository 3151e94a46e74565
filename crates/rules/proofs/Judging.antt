-- A set has one verdict, and a history one width, from 1.
use Rattle.std.proofs.Common.{◌≡◌, ℕ, zero, suc, ◌≤◌, ◌⊎◌, ℤ, refl, ap, inl, inr, ⊎_elim, arith}
use Rattle.std.proofs.lemmas.Bool.{cases_eq}
use Rattle.ring.specs.Elem.{Elem}
use Rattle.ring.specs.System.{System, Lawful}
use Rattle.ring.specs.Class.{Full}
use Rattle.ring.specs.Verdict.{cleared, barred, Before, Holds}
use Rattle.ring.specs.Verdict as ring
use Rattle.ring.proofs.Verdicts.{order, one_verdict}
use Rattle.numbers.specs.Meaning.{short}
use Rattle.numbers.specs.declared.elements.Element.{Element}
use Rattle.digits.specs.Verdicts.{verdict_of}
use Rattle.digits.specs.declared.verdict.Verdict.{Verdict}
use Rattle.digits.specs.declared.verdict.Verdict.TheVariants.{Cleared, Barred}

-- elements of the code that stand for one element are the same
pub one_element : (a b : Element ℤ) → short a ≡ short b → a ≡ b
one_element a b e = λ i. record { x = (e i).x; y = (e i).y }

lead_of : ring.Verdict → ℕ
lead_of cleared = 0
lead_of (barred a l p) = l

period_of : ring.Verdict → ℕ
period_of cleared = 0
period_of (barred a l p) = p

stable : (a b : ℕ) → ((a ≡ b → ⊥) → ⊥) → a ≡ b
stable a b f = ⊎_elim (λ e. e) (λ n. absurd (f n)) (cases_eq a b)

module _ (s : System) (g : Lawful s) (v : ℕ) (S : Elem → Type 0) (full : (Full s (suc v) S → ⊥) → ⊥) where
  verdict_at : (c d : Verdict) → Holds s (suc v) S (verdict_of c) → Holds s (suc v) S (verdict_of d) → c ≡ d
  unfolding lead_of period_of
  verdict_at Cleared Cleared h k = refl
  verdict_at Cleared (Barred b m q) h k = absurd (k.none (h (short b)))
  verdict_at (Barred a l p) Cleared h k = absurd (h.none (k (short a)))
  verdict_at (Barred a l p) (Barred b m q) h k = λ i. Barred (first i) (leads i) (periods i)
    where
      by : Before s (short a) (short b) ⊎ ((short a ≡ short b) ⊎ Before s (short b) (short a)) → short a ≡ short b
      by (inl u) = absurd (h.none (k.earlier (short a) u))
      by (inr (inl e)) = e
      by (inr (inr u)) = absurd (k.none (h.earlier (short b) u))

      first : a ≡ b
      first = one_element a b (by (order s (short a) (short b)))

      leads : l ≡ m
      leads = stable l m (λ n. full (λ f. n (ap lead_of (one_verdict s g v S f (barred (short a) l p) (barred (short b) m q) h k))))

      periods : p ≡ q
      periods = stable p q (λ n. full (λ f. n (ap period_of (one_verdict s g v S f (barred (short a) l p) (barred (short b) m q) h k))))

pub verdict_one : (s : System) → Lawful s → (w : ℕ) → 1 ≤ w → (S : Elem → Type 0) → ((Full s w S → ⊥) → ⊥) → (c d : Verdict) → Holds s w S (verdict_of c) → Holds s w S (verdict_of d) → c ≡ d
verdict_one s g zero h = absurd (omega arith)
verdict_one s g (suc v) h = verdict_at s g v
