-- How a unit stands, by the rows that do not fit and by the tests on standings.
use Rattle.std.proofs.Common.{◌≡◌, ℕ, true, false, ◌⊎◌, Some, None, Option, refl, ap, inl, inr, arith}
use Rattle.std.proofs.lemmas.Bool.{both_ways}
use Rattle.ring.specs.Elem.{Elem}
use Rattle.rules.specs.Told.{Closes}
use Rattle.rules.specs.History.{running, cleared, barred, first_some}
use Rattle.rules.specs.declared.calls.Standing.{Standing}
use Rattle.rules.specs.declared.calls.Standing.TheVariants as standing
use Rattle.rules.specs.declared.calls.Call.{Call}

pub false_true : {A : Type 0} → false ≡ true → A
false_true e = absurd (both_ways false refl e)

pub keep_closed : (o p : Option Call) → (o ≡ None → ⊥) → first_some o p ≡ o
keep_closed None p f = absurd (f refl)
keep_closed (Some c) p f = refl

pub some_none : (c : Call) → Some c ≡ None → ⊥
some_none c e = let z : ◌≡◌ {A = ℕ} 0 1 = cc in absurd (omega arith)

pub idle_of : (s : Standing) → (s ≡ standing.Running → ⊥) → running s ≡ false
idle_of standing.Draft f = refl
idle_of standing.Barred f = refl
idle_of standing.Cleared f = refl
idle_of standing.Running f = absurd (f refl)

pub on_of : (s : Standing) → ((s ≡ standing.Running → ⊥) → ⊥) → running s ≡ true
on_of standing.Draft f = absurd (f (λ e. let z : ◌≡◌ {A = ℕ} 0 1 = cc in absurd (omega arith)))
on_of standing.Barred f = absurd (f (λ e. let z : ◌≡◌ {A = ℕ} 0 1 = cc in absurd (omega arith)))
on_of standing.Cleared f = absurd (f (λ e. let z : ◌≡◌ {A = ℕ} 0 1 = cc in absurd (omega arith)))
on_of standing.Running f = refl

pub clear_ready : (s : Standing) → ((s ≡ standing.Draft) ⊎ (s ≡ standing.Barred) → ⊥) → cleared s ≡ true
clear_ready standing.Draft f = absurd (f (inl refl))
clear_ready standing.Barred f = absurd (f (inr refl))
clear_ready standing.Cleared f = refl
clear_ready standing.Running f = refl

pub running_clear : (s : Standing) → running s ≡ true → cleared s ≡ true
running_clear standing.Draft e = false_true e
running_clear standing.Barred e = false_true e
running_clear standing.Cleared e = false_true e
running_clear standing.Running e = refl

pub clear_not_barred : (s : Standing) → cleared s ≡ true → barred s ≡ false
clear_not_barred standing.Draft e = refl
clear_not_barred standing.Barred e = false_true e
clear_not_barred standing.Cleared e = refl
clear_not_barred standing.Running e = refl

-- load and tick leave cleared or running
pub closes_clear : (z : Elem) (s : Standing) → Closes z s → cleared s ≡ true
closes_clear z s (inl p) = ap cleared p.1
closes_clear z s (inr p) = ap cleared p.1

pub closes_bar : (z : Elem) (s : Standing) → Closes z s → barred s ≡ false
closes_bar z s c = clear_not_barred s (closes_clear z s c)
