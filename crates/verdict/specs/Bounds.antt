-- The bound of the search.
use Rattle.std.specs.Prelude.{ℕ, ◌-◌, ◌*◌, ◌^◌, ◌≤◌, List}
use Rattle.std.specs.List.{ContainsAt as Has}
use Rattle.ring.specs.Elem.{Elem}
use Rattle.ring.specs.System.{System, size}

-- no element of the list has a norm above m
abbrev pub Most : System → ℕ → List Elem → Type 0
Most s m ds = (d : Elem) → Has ds d → size s d ≤ m

-- r bounds every norm N with N·(2p^w − 3) ≤ 6·D, for some D that no digit's norm passes
abbrev pub Reaches : System → ℕ → List Elem → ℕ → Type 0
Reaches s w ds r = (D : ℕ) × Most s D ds × ((n : ℕ) → n * (2 * s.p ^ w - 3) ≤ 6 * D → n ≤ r)
