-- What a step answers is the remainder.
use Rattle.std.proofs.Common.{◌≡◌, ℕ, ◌^◌, ◌≤◌, List, refl, inl, inr, ⊎_elim, arith}
use Rattle.ring.specs.Elem.{Elem, Below, 𝟘}
use Rattle.ring.specs.System.{System, Lawful, size}
use Rattle.digits.specs.Stepping.{Stepped, Stuck}
use Rattle.rounds.proofs.Orders.{near}
use Rattle.verdict.specs.Remainders.{remainder_is, is_one}
use Rattle.verdict.specs.Next.{next}

module _ (s : System) (g : Lawful s) (w : ℕ) (wide : 1 ≤ w) (ds : List Elem) (z : Elem) where
  pub taken_is : (d r : Elem) → Stepped s (2 ^ 28) w ds z d r → r ≡ next s g w wide ds z
  taken_is d r t = is_one s g w wide ds z r (next s g w wide ds z) (⊎_elim (λ h. inl h.2) (λ h. inr (h.0, inl (d, t.first h.0, h.3))) t.step) (remainder_is s g w wide ds z)

  works : size s z ≤ 1560600 → Below (2 ^ 28) z
  works h = let b = near s g 1560600 (omega arith) z h in record { in_x = omega (arith, b.in_x); in_y = omega (arith, b.in_y) }

  pub stuck_is : size s z ≤ 1560600 → Stuck s (2 ^ 28) w ds z → 𝟘 ≡ next s g w wide ds z
  stuck_is h t = is_one s g w wide ds z 𝟘 (next s g w wide ds z) (⊎_elim (λ n. absurd (n (works h))) (λ u. inr (u.0, inr (u.1, refl))) t) (remainder_is s g w wide ds z)
