-- When a step can be taken, and what it answers.
use Rattle.std.specs.Prelude.{◌≡◌, ℕ, ◌<◌, ◌⊎◌, List, length, slice_index_or}
use Rattle.std.specs.List.{ContainsAt as Has}
use Rattle.ring.specs.Elem.{Elem, Below, 𝟘}
use Rattle.ring.specs.System.{System}
use Rattle.ring.specs.Class.{Even, SameClass}
use Rattle.ring.specs.Trail.{Step}

-- no digit of the list is of z's class
abbrev pub Unclassed : System → ℕ → List Elem → Elem → Type 0
Unclassed s w ds z = (d : Elem) → Has ds d → ¬ (SameClass s w z d)

-- z is not below the working limit, or β does not divide it and no digit of the list is of its class
abbrev pub Stuck : System → ℕ → ℕ → List Elem → Elem → Type 0
Stuck s limit w ds z = (¬ (Below limit z)) ⊎ ((¬ (Even s z)) × Unclassed s w ds z)

-- d is the first digit of the list that is of z's class
abbrev pub FirstOf : System → ℕ → List Elem → Elem → Elem → Type 0
FirstOf s w ds z d = (k : ℕ) × (k < length ds) × (slice_index_or ds k 𝟘 ≡ d) × SameClass s w z d × ((j : ℕ) → j < k → ¬ (SameClass s w z (slice_index_or ds j 𝟘)))

-- z is below the working limit, and its step has the digit d, the first of its class where β does not divide z, and the remainder r
pub record Stepped (s : System) (limit w : ℕ) (ds : List Elem) (z d r : Elem) : Type 0 where
  pub below : Below limit z
  pub step : Step s w (Has ds) z d r
  pub first : ¬ (Even s z) → FirstOf s w ds z d
