-- Whether b divides an element is decided, where b's norm is a positive number p: it does if p divides both coordinates of conj b · z.
use Rattle.std.proofs.Common.{◌≡◌, ℕ, zero, suc, ◌*◌, ◌/◌, ◌%◌, ◌≤◌, [], ◌∷◌, ℤ, pos, negsuc, ◌*ℤ◌, neg_ℤ, nat_abs, ◌≤ℤ◌, sym, refl, ap, ◌∙◌, div-add-mod', arith}
use native.Mathlib.Decide.{ℕ_discrete}
use native.Mathlib.Nat.{mul-mod_right}
use Rattle.ring.specs.Elem.{Elem}
use Rattle.ring.specs.System.{System, mul, norm}
use Rattle.ring.specs.Class.{Divides}
use Rattle.ring.proofs.Polynomials.{var, ◌⊗◌, ⊝◌, solve}
use Rattle.ring.proofs.Orders.{ord}
use Rattle.ring.proofs.Elements.{same, normx, A, env1}
use Rattle.ring.proofs.Norms.{cancel, conj, conjx, conj_mul}

nat_dvd : (p a : ℕ) → Dec ((k : ℕ) × (p * k ≡ a))
nat_dvd p a = by (ℕ_discrete (a % p) 0)
  where
    by : Dec (a % p ≡ 0) → Dec ((k : ℕ) × (p * k ≡ a))
    by (yes e) = yes (a / p, omega (arith, div-add-mod' a p))
    by (no n) = no (λ h. n (ap (λ x. x % p) (sym h.1) ∙ mul-mod_right p h.0))

abs_neg : (z : ℤ) → nat_abs (neg_ℤ z) ≡ nat_abs z
abs_neg (pos zero) = refl
abs_neg (pos (suc n)) = refl
abs_neg (negsuc n) = refl

abs_mul : (p : ℕ) (k : ℤ) → nat_abs (pos p *ℤ k) ≡ p * nat_abs k
abs_mul p (pos k) = refl
abs_mul p (negsuc k) = abs_neg (pos (p * suc k))

int_dvd : (p : ℕ) (m : ℤ) → Dec ((k : ℤ) × (pos p *ℤ k ≡ m))
int_dvd p (pos a) = by (nat_dvd p a)
  where
    by : Dec ((k : ℕ) × (p * k ≡ a)) → Dec ((k : ℤ) × (pos p *ℤ k ≡ pos a))
    by (yes h) = yes (pos h.0, ap pos h.1)
    by (no n) = no (λ h. n (nat_abs h.0, sym (abs_mul p h.0) ∙ ap nat_abs h.1))
int_dvd p (negsuc a) = by (nat_dvd p (suc a))
  where
    by : Dec ((k : ℕ) × (p * k ≡ suc a)) → Dec ((k : ℤ) × (pos p *ℤ k ≡ negsuc a))
    by (yes h) = yes (neg_ℤ (pos h.0), solve (pos p ∷ pos h.0 ∷ []) (var 0 ⊗ (⊝ var 1)) (⊝ (var 0 ⊗ var 1)) tt ∙ ap (λ n. neg_ℤ (pos n)) h.1)
    by (no n) = no (λ h. n (nat_abs h.0, sym (abs_mul p h.0) ∙ ap nat_abs h.1))

module _ (s : System) (b : Elem) (p : ℕ) (one : 1 ≤ p) (p_is : norm s b ≡ pos p) where
  conj_norm : pos 1 ≤ℤ norm s (conj s b)
  unfolding conj
  conj_norm = let e = solve (env1 s b) (normx (conjx s A)) (normx A) tt in omega (arith, ord)

  pub divides? : (z : Elem) → Dec (Divides s b z)
  divides? z = by (int_dvd p (mul s (conj s b) z).x) (int_dvd p (mul s (conj s b) z).y)
    where
      by : Dec ((k : ℤ) × (pos p *ℤ k ≡ (mul s (conj s b) z).x)) → Dec ((k : ℤ) × (pos p *ℤ k ≡ (mul s (conj s b) z).y)) → Dec (Divides s b z)
      by (yes h) (yes k) =
          let q : Elem = record { x = h.0; y = k.0 } in
          yes (
            q,
            cancel s (conj s b) (mul s b q) z conj_norm
                (same (mul s (conj s b) (mul s b q)) (mul s (conj s b) z)
                ((conj_mul s b q).0 ∙ ap (λ m. m *ℤ q.x) p_is ∙ h.1)
                ((conj_mul s b q).1 ∙ ap (λ m. m *ℤ q.y) p_is ∙ k.1)),
          )
      by (no n) _ = no (λ d. n (d.0.x, ap (λ m. m *ℤ d.0.x) (sym p_is) ∙ sym (conj_mul s b d.0).0 ∙ ap (λ u. (mul s (conj s b) u).x) d.1))
      by (yes h) (no n) = no (λ d. n (d.0.y, ap (λ m. m *ℤ d.0.y) (sym p_is) ∙ sym (conj_mul s b d.0).1 ∙ ap (λ u. (mul s (conj s b) u).y) d.1))
