-- Tables of refusals: of the rows that fit a call, the uppermost counts, and a call that no row fits is accepted.
use Rattle.std.specs.Prelude.{◌≡◌, ◌⊎◌, List, [], ◌∷◌}
use Rattle.refusals.specs.declared.Refusal.{Refusal}

-- where `fits` holds, the call is refused for `reason`
pub record Row : Type 1 where
  pub fits : Type 0
  pub reason : Refusal

abbrev pub row : Type 0 → Refusal → Row
row t r = record { fits = t; reason = r }

-- e is the reason of the uppermost row that fits
abbrev pub Uppermost : List Row → Refusal → Type 0
Uppermost [] e = ⊥
Uppermost (r ∷ rs) e = (r.fits × (e ≡ r.reason)) ⊎ ((r.fits → ⊥) × Uppermost rs e)

-- no row fits
abbrev pub Unfit : List Row → Type 0
Unfit [] = Unit {0}
Unfit (r ∷ rs) = (r.fits → ⊥) × Unfit rs
