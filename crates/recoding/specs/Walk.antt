-- A recoding as it goes: the digits and remainders of steps, one after the other.
use Rattle.std.specs.Prelude.{◌≡◌, ℕ, ◌≢◌, List, [], ◌∷◌, map, ℤ}
use Rattle.std.specs.List.{ContainsAt as Has}
use Rattle.ring.specs.Elem.{Elem, 𝟘}
use Rattle.ring.specs.System.{System}
use Rattle.ring.specs.Trail.{Step}
use Rattle.numbers.specs.Meaning.{meaning}
use Rattle.digits.specs.Digits.{elem_of}
use Rattle.recoding.specs.declared.entry.Entry.{Entry}

-- the digits of a list of entries
abbrev pub digits_of : {C : Type 0} → List (Entry C) → List Elem
digits_of es = map (λ e. elem_of e.digit) es

-- the steps of the entries lead from z, and from no element that is 0, to r
abbrev pub Leads : {C : Type 0} → (C → ℤ) → System → ℕ → List Elem → Elem → List (Entry C) → Elem → Type 0
Leads value s w ds z [] r = z ≡ r
Leads value s w ds z (e ∷ es) r = (z ≢ 𝟘) × Step s w (Has ds) z (elem_of e.digit) (meaning value e.remainder) × Leads value s w ds (meaning value e.remainder) es r
