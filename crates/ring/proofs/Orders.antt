-- Order facts of ℤ that are not linear, and the sets for `omega`.
use Rattle.std.proofs.Common.{◌≡◌, zero, suc, ℤ, pos, negsuc, ◌*ℤ◌, ◌≤ℤ◌, refl, arith}
use borrow.Author.Differences.{ints, lt_out, le_out, below_in, at_most_in, Apart-out}
use Rattle.ring.proofs.Integers.{lin}

pub ruleset ord = (lin, Apart-out, lt_out, le_out, below_in, at_most_in)

pub sq_nonneg : (a : ℤ) → pos 0 ≤ℤ (a *ℤ a)
sq_nonneg (pos n) = omega (arith, ord)
sq_nonneg (negsuc n) = omega (arith, ord)

pub mul_nonneg : (a b : ℤ) → pos 0 ≤ℤ a → pos 0 ≤ℤ b → pos 0 ≤ℤ (a *ℤ b)
mul_nonneg (pos a) (pos b) h k = omega (arith, ord)
mul_nonneg (pos a) (negsuc b) h k = absurd (omega (arith, ord))
mul_nonneg (negsuc a) b h k = absurd (omega (arith, ord))

-- a positive factor goes
pub cancel_nonneg : (a b : ℤ) → pos 1 ≤ℤ a → pos 0 ≤ℤ (a *ℤ b) → pos 0 ≤ℤ b
cancel_nonneg (pos a) (pos b) h k = omega (arith, ord)
cancel_nonneg (pos (suc a)) (negsuc b) h k = absurd (omega (arith, ints))
cancel_nonneg (pos zero) (negsuc b) h k = absurd (omega (arith, ord))
cancel_nonneg (negsuc a) b h k = absurd (omega (arith, ord))

pub sq_zero : (a : ℤ) → (a *ℤ a) ≤ℤ pos 0 → a ≡ pos 0
sq_zero (pos zero) h = refl
sq_zero (pos (suc n)) h = absurd (omega (arith, ord))
sq_zero (negsuc n) h = absurd (omega (arith, ord))

pub cancel_zero : (a b : ℤ) → pos 1 ≤ℤ a → a *ℤ b ≡ pos 0 → b ≡ pos 0
cancel_zero (pos (suc a)) (pos b) h e = omega (arith, ints)
cancel_zero (pos (suc a)) (negsuc b) h e = absurd (omega (arith, ints))
cancel_zero (pos zero) b h e = absurd (omega (arith, ord))
cancel_zero (negsuc a) b h e = absurd (omega (arith, ord))
