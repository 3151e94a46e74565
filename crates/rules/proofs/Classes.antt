-- What is decided of elements: that they are below a limit, that two numbers are the same; and that each is of its own class.
use Rattle.std.proofs.Common.{◌≡◌, ℕ, ◌<◌, ◌≤◌, ℤ, ◌∙◌, arith}
use native.Mathlib.Decide.{dec_lt}
use lib.IntN.{ℤ_discrete}
use Rattle.ring.specs.Elem.{Elem, sub, 𝟘, Below}
use Rattle.ring.specs.System.{System, pow}
use Rattle.ring.specs.Class.{SameClass}
use Rattle.ring.proofs.Integers.{lin}
use Rattle.ring.proofs.Elements.{same, mul_zero}
use Rattle.rules.specs.Views.{EngineRing}
use Rattle.rules.specs.Table.{Matches}

pub own_class : (s : System) (w : ℕ) (d : Elem) → SameClass s w d d
own_class s w d = (𝟘, mul_zero s (pow s s.β w) ∙ same 𝟘 (sub d d) (omega (arith, lin)) (omega (arith, lin)))

less_since : (a b : ℕ) → ((a < b → ⊥) → ⊥) → a < b
less_since a b f = elim (dec_lt a b) [ yes l ↦ l | no n ↦ absurd (f n) ]

pub below_since : (limit : ℕ) (z : Elem) → ((Below limit z → ⊥) → ⊥) → Below limit z
below_since limit z f = record { in_x = less_since _ _ (λ n. f (λ b. n b.in_x)); in_y = less_since _ _ (λ n. f (λ b. n b.in_y)) }

same_since : (a b : ℤ) → ((a ≡ b → ⊥) → ⊥) → a ≡ b
same_since a b f = elim (ℤ_discrete a b) [ yes l ↦ l | no n ↦ absurd (f n) ]

pub matches_since : (s : System) (m : EngineRing) → ((Matches s m → ⊥) → ⊥) → Matches s m
matches_since s m f = (same_since m.t s.t (λ n. f (λ b. n b.0)), same_since m.n s.n (λ n. f (λ b. n b.1)))

pub below_more : (l m : ℕ) (z : Elem) → l ≤ m → Below l z → Below m z
below_more l m z h b = record { in_x = (let c = b.in_x in omega arith); in_y = (let c = b.in_y in omega arith) }
