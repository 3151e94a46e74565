-- If each element of small norm has an expansion, every element has one.
use Rattle.std.proofs.Common.{◌≡◌, ℕ, zero, suc, ◌-◌, ◌*◌, ◌^◌, ◌<◌, ◌≤◌, [], ◌∷◌, sym, refl, ap, ◌∙◌, subst, inl, inr, le_refl, mul-le-mul_right, mul-le-mul, arith}
use native.Mathlib.Decide.{dec_le}
use native.Mathlib.Nat.{pow-zero, pow-succ'}
use Rattle.ring.specs.Elem.{Elem, 𝟘}
use Rattle.ring.specs.System.{System, Lawful, mul, pow, size}
use Rattle.ring.specs.Class.{Covers, Even}
use Rattle.ring.specs.Expansion.{HasExpansion}
use Rattle.ring.specs.Trail.{Step}
use Rattle.ring.proofs.Elements.{mul_assoc, mul_one}
use Rattle.ring.proofs.Norms.{size_mul, size_β, contracts, shrinks}
use Rattle.ring.proofs.Division.{divides?}
use Rattle.ring.proofs.Expansions.{nil}
use Rattle.ring.proofs.Steps.{step_expands, is_zero}

pub power : (p k : ℕ) → 2 ≤ p → 2 ≤ p ^ suc k
power p zero h = let e = pow-succ' p 0 ∙ ap (λ x. p * x) (pow-zero p) in omega arith
power p (suc k) h = let e = pow-succ' p (suc k) in let m = mul-le-mul h (power p k h) in omega arith

some_of : (a b c : ℕ) → c < a * b → 1 ≤ a
some_of zero b c h = omega arith
some_of (suc a) b c h = omega arith

module _ (s : System) (g : Lawful s) (v : ℕ) (S : Elem → Type 0) (odd : (d : Elem) → S d → ¬ (Even s d)) where
  pub has_step : (z d q : Elem) → Step s (suc v) S z d q → HasExpansion s (suc v) S q → HasExpansion s (suc v) S z
  has_step z d q t h = by (is_zero z)
    where
      by : Dec (z ≡ 𝟘) → HasExpansion s (suc v) S z
      by (yes e) = subst (HasExpansion s (suc v) S) (sym e) ([], nil s g (suc v) S)
      by (no n) = (d ∷ h.0, step_expands s g v S odd z d q h.0 t h.1 n)

  pub has_pow : (k : ℕ) (q : Elem) → HasExpansion s (suc v) S q → HasExpansion s (suc v) S (mul s (pow s s.β k) q)
  has_pow zero q h = subst (HasExpansion s (suc v) S) (sym (mul_one s q)) h
  has_pow (suc k) q h =
      let u = mul s (pow s s.β k) q in
      has_step (mul s (pow s s.β (suc k)) q) 𝟘 u
      (let e = sym (mul_assoc s s.β (pow s s.β k) q) in inl ((u, e), refl, e)) (has_pow k q h)

-- a set with at least one digit in each class
module _ (s : System) (g : Lawful s) (v : ℕ) (S : Elem → Type 0) (covers : Covers s (suc v) S) where
  pub search_bound : (D : ℕ) → ((d : Elem) → S d → size s d ≤ D) →
      ((z : Elem) → size s z * (2 * s.p ^ suc v - 3) ≤ 6 * D → HasExpansion s (suc v) S z) → (z : Elem) → HasExpansion s (suc v) S z
  search_bound D small near z = go (suc (size s z)) z (le_refl (suc (size s z)))
    where
      far : (n : ℕ) → ((y : Elem) → size s y < n → HasExpansion s (suc v) S y) → (z : Elem) → size s z ≤ n → 6 * D < size s z * (2 * s.p ^ suc v - 3) → Dec (Even s z) → HasExpansion s (suc v) S z
      far n ih z h l (yes d) =
          let e = sym (ap (size s) d.1) ∙ size_mul s g s.β d.0 ∙ ap (λ k. k * size s d.0) (size_β s g) in
          has_step s g v S covers.odd z 𝟘 d.0 (inl (d, refl, d.1)) (ih d.0 (let k = mul-le-mul_right (size s d.0) g.p_low in let o = some_of (size s z) (2 * s.p ^ suc v - 3) (6 * D) l in omega arith))
      far n ih z h l (no o) =
          let m = covers.some z o in
          let r = m.2.0 in
          let c = contracts s g (suc v) D z m.0 r m.2.1 (small m.0 m.1) in
          let less = shrinks (s.p ^ suc v) (size s r) (size s z) D (power s.p v g.p_low) c l in
          has_step s g v S covers.odd z m.0 (mul s (pow s s.β v) r) (inr (o, m.1, m.2, sym (mul_assoc s s.β (pow s s.β v) r) ∙ m.2.1))
          (has_pow s g v S covers.odd v r (ih r (omega arith)))

      by : (n : ℕ) → ((y : Elem) → size s y < n → HasExpansion s (suc v) S y) → (z : Elem) → size s z ≤ n → Dec (size s z * (2 * s.p ^ suc v - 3) ≤ 6 * D) → HasExpansion s (suc v) S z
      by n ih z h (yes l) = near z l
      by n ih z h (no l) = far n ih z h (omega arith) (divides? s s.β s.p (let k = g.p_low in omega arith) g.p_is z)

      go : (n : ℕ) (z : Elem) → size s z < n → HasExpansion s (suc v) S z
      go zero z h = absurd (omega arith)
      go (suc n) z h = by n (go n) z (omega arith) (dec_le (size s z * (2 * s.p ^ suc v - 3)) (6 * D))
