-- The rings and the widest widths of the three systems, and that they are lawful.
use Rattle.std.specs.Prelude.{◌≡◌, ℕ, ℤ, pos, negsuc, ◌⊎◌, ◌≤ℤ◌, refl}
use Rattle.std.proofs.Common.{inl, inr, arith, lit≤}
use Rattle.std.proofs.lemmas.Int.{ints}
use Rattle.ring.specs.System.{System, Lawful, Widths}
use Rattle.numbers.specs.declared.elements.Element.{Element}

-- θ² = tθ − 2, with the base θ
abbrev pub theta : ℤ → System
theta t = record { t = t; n = pos 2; β = record { x = pos 0; y = pos 1 }; p = 2 }

-- t is 1
abbrev pub kp : System
kp = theta (pos 1)

-- t is −1
abbrev pub km : System
km = theta (negsuc 0)

-- θ² = −1, with the base 2 + θ
abbrev pub g5 : System
g5 = record { t = pos 0; n = pos 1; β = record { x = pos 2; y = pos 1 }; p = 5 }

-- the base θ
abbrev pub theta_base : Element ℤ
theta_base = record { x = pos 0; y = pos 1 }

-- the base 2 + θ
abbrev pub g5_base : Element ℤ
g5_base = record { x = pos 2; y = pos 1 }

-- t is 1 or −1
abbrev pub IsSign : ℤ → Type 0
IsSign t = (t ≡ pos 1) ⊎ (t ≡ negsuc 0)

pub plus_is_sign : IsSign (pos 1)
plus_is_sign = inl refl

pub minus_is_sign : IsSign (negsuc 0)
minus_is_sign = inr refl

-- the widest width of kp and km
abbrev pub theta_widest : ℕ
theta_widest = 8

-- the widest width of g5
abbrev pub g5_widest : ℕ
g5_widest = 3

of_bounds : (t : ℤ) → negsuc 0 ≤ℤ t → t ≤ℤ pos 1 → Lawful (theta t)
of_bounds t low high = record { t_low = low; t_high = high; n_low = omega (arith, ints); n_high = omega (arith, ints); p_is = omega (arith, ints); p_low = lit≤ tt; p_high = lit≤ tt }

pub theta_lawful : (t : ℤ) → IsSign t → Lawful (theta t)
theta_lawful t (inl e) = of_bounds t (omega (arith, ints)) (omega (arith, ints))
theta_lawful t (inr e) = of_bounds t (omega (arith, ints)) (omega (arith, ints))

pub g5_lawful : Lawful g5
g5_lawful = record { t_low = omega (arith, ints); t_high = omega (arith, ints); n_low = omega (arith, ints); n_high = omega (arith, ints); p_is = refl; p_low = lit≤ tt; p_high = lit≤ tt }

pub theta_widths : Widths 2 theta_widest
theta_widths = record { some = lit≤ tt; few = lit≤ tt }

pub g5_widths : Widths 5 g5_widest
g5_widths = record { some = lit≤ tt; few = lit≤ tt }
