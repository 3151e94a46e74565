-- What the code's types stand for.
use Rattle.std.specs.Prelude.{ℕ, ℤ}
use Rattle.ring.specs.Elem.{Elem}
use Rattle.ring.specs.System.{System}
use Rattle.numbers.specs.declared.elements.Element.{Element}

-- the element of the ring, where each coordinate stands for the number `value` of it
abbrev pub meaning : {C : Type 0} → (C → ℤ) → Element C → Elem
meaning value z = record { x = value z.x; y = value z.y }

-- the same where the coordinates are whole numbers
abbrev pub short : Element ℤ → Elem
short z = record { x = z.x; y = z.y }

-- the system of these numbers
abbrev pub ruling : ℤ → ℤ → Element ℤ → ℕ → System
ruling t n base p = record { t = t; n = n; β = short base; p = p }
