-- From trails of the map to expansions.
use Rattle.std.proofs.Common.{ℕ, ◌≤◌, List, refl, inl, inr}
use Rattle.std.specs.List.{ContainsAt as Has}
use Rattle.ring.specs.Elem.{Elem, 𝟘}
use Rattle.ring.specs.System.{System, Lawful, size}
use Rattle.ring.specs.Class.{Full}
use Rattle.ring.specs.Expansion.{HasExpansion}
use Rattle.ring.specs.Trail.{Step, Trail}
use Rattle.ring.specs.Verdict.{Holds}
use Rattle.ring.proofs.Statements.{trail_reaches_zero, search_bound_stands}
use Rattle.numbers.specs.Meaning.{short}
use Rattle.digits.proofs.Firsts.{first_held}
use Rattle.rounds.specs.Rounds.{after}
use Rattle.finding.specs.Finding.{Ends, Judged}
use Rattle.digits.specs.Verdicts.{verdict_of}
use Rattle.digits.specs.declared.verdict.Verdict.{Verdict}
use Rattle.digits.specs.declared.verdict.Verdict.TheVariants.{Cleared, Barred}
use Rattle.verdict.specs.Next.{next}
use Rattle.verdict.specs.Bounds.{Reaches}
use Rattle.verdict.specs.Remainders.{Remains, remainder_is}

module _ (s : System) (g : Lawful s) (w : ℕ) (wide : 1 ≤ w) (ds : List Elem) (full : Full s w (Has ds)) where
  abbrev N : Elem → Elem
  N = next s g w wide ds

  -- the map's remainder is that of ring's step
  is_step : (z r : Elem) → Remains s w ds z r → (d : Elem) × Step s w (Has ds) z d r
  is_step z r (inl p) = (𝟘, inl ((r, p), refl, p))
  is_step z r (inr (o, inl (d, f, p))) = (d, inr (o, first_held s w ds z d f, f.3, p))
  is_step z r (inr (o, inr p)) = let m = full.some z o in absurd (p.0 m.0 m.1 m.2)

  trail : (z : Elem) → Trail s w (Has ds) (λ k. after N k z)
  trail z k = is_step (after N k z) (N (after N k z)) (remainder_is s g w wide ds (after N k z))

  has : (z : Elem) → Ends N z → HasExpansion s w (Has ds) z
  has z h = (trail_reaches_zero s g w wide ds full (λ k. after N k z) (trail z)).1 h

  ends : (z : Elem) → HasExpansion s w (Has ds) z → Ends N z
  ends z h = (trail_reaches_zero s g w wide ds full (λ k. after N k z) (trail z)).0 h

  pub holds : (bound : ℕ) → Reaches s w ds bound → (r : Verdict) → Judged N s bound r → Holds s w (Has ds) (verdict_of r)
  holds bound (D, most, reaches) Cleared j =
      search_bound_stands s g w wide ds (record { odd = full.odd; some = full.some }) D most (λ z h. has z (j z (reaches (size s z) h)))
  holds bound reaches (Barred z l p) j = record {
    none = λ h. j.none (ends (short z) h);
    earlier = λ a b. has a (j.earlier a b);
    trail = (λ k. after N k (short z), trail (short z), refl, j.round);
  }
