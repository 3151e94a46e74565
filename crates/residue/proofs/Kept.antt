-- What 64 bits keep of products, and of r² − t·r + n.
use Rattle.std.proofs.Common.{◌≡◌, ℕ, ◌*◌, ◌^◌, ◌<◌, ◌≤◌, ℤ, pos, ◌+ℤ◌, ◌-ℤ◌, ◌*ℤ◌, ◌-◌, nat_abs, sym, subst, ap, ◌∙◌, mul-le-mul_right, arith, w32, w64, SFits, to_z, of_z}
use Rattle.std.proofs.lemmas.Nat.{mul-lt}
use Rattle.std.proofs.lemmas.Int.{ints, to_z-of_z, fits_signed_mul, unsigned_abs-mul}
use Rattle.engine.specs.Rings.{InRing}
use Rattle.residue.specs.Residue.{at_root}

-- a number as 64 bits keep it
abbrev kept : ℤ → ℤ
kept z = to_z w64 (of_z w64 z)

wider : (z y : ℤ) → SFits w32 z → y ≡ to_z w32 (of_z w32 z) → kept y ≡ z
wider z y f e = ap kept (e ∙ to_z-of_z w32 z f) ∙ to_z-of_z w64 z (omega (arith, ints, f))

-- the product of two numbers of 32 bits
pub product_is : (k : ℤ) (a : ℕ) → SFits w32 k → a < 2 ^ 32 → (x y : ℤ) → x ≡ to_z w32 (of_z w32 k) → y ≡ pos a → kept (kept x *ℤ kept y) ≡ k *ℤ pos a
product_is k a f h x y ex ey =
    let y_is : kept y ≡ pos a = ap kept ey ∙ to_z-of_z w64 (pos a) (omega (arith, ints)) in
    (λ i. kept (wider k x f ex i *ℤ y_is i)) ∙ to_z-of_z w64 (k *ℤ pos a) (fits_signed_mul w64 k (pos a) (2 ^ 31) (2 ^ 32 - 1) (omega (arith, ints, f)) (omega (arith, ints)) (omega arith))

module _ (t n : ℤ) (k : ℕ) (ring : InRing t n) (high : k < 2 ^ 31) where
  abbrev r : ℤ
  r = pos k

  fits : SFits w64 (r *ℤ r) × SFits w64 (t *ℤ r) × SFits w64 (r *ℤ r -ℤ t *ℤ r) × SFits w64 (at_root t n r)
  fits =
      let rr : k * k < 2 ^ 31 * 2 ^ 31 = mul-lt k k (2 ^ 31) (2 ^ 31) high high in
      let tr : nat_abs (t *ℤ r) ≤ 1 * k = subst (λ z. z ≤ 1 * k) (sym (unsigned_abs-mul t r)) (mul-le-mul_right k (omega (arith, ints))) in
      (omega (arith, ints), omega (arith, ints), omega (arith, ints), omega (arith, ints))

  -- no part of the sum is too large, where x, y and z hold r, t and n
  pub at_root_is : (x y z : ℤ) → x ≡ r → y ≡ to_z w32 (of_z w32 t) → z ≡ to_z w32 (of_z w32 n) →
      let sum : ℤ = kept (kept (kept x *ℤ kept x) -ℤ kept (kept y *ℤ kept x)) +ℤ kept z in
      SFits w64 sum × (kept sum ≡ at_root t n r)
  at_root_is x y z ex ey ez =
      let x_is : kept x ≡ r = ap kept ex ∙ to_z-of_z w64 r (omega (arith, ints)) in
      let y_is : kept y ≡ t = wider t y (omega (arith, ints)) ey in
      let z_is : kept z ≡ n = wider n z (omega (arith, ints)) ez in
      let xx : kept (kept x *ℤ kept x) ≡ r *ℤ r = ap (λ u. kept (u *ℤ u)) x_is ∙ to_z-of_z w64 (r *ℤ r) fits.0 in
      let yx : kept (kept y *ℤ kept x) ≡ t *ℤ r = (λ i. kept (y_is i *ℤ x_is i)) ∙ to_z-of_z w64 (t *ℤ r) fits.1 in
      let d : kept (kept (kept x *ℤ kept x) -ℤ kept (kept y *ℤ kept x)) ≡ r *ℤ r -ℤ t *ℤ r = (λ i. kept (xx i -ℤ yx i)) ∙ to_z-of_z w64 (r *ℤ r -ℤ t *ℤ r) fits.2 in
      let sum_is : kept (kept (kept x *ℤ kept x) -ℤ kept (kept y *ℤ kept x)) +ℤ kept z ≡ at_root t n r = λ i. d i +ℤ z_is i in
      (subst (SFits w64) (sym sum_is) fits.3, ap kept sum_is ∙ to_z-of_z w64 (at_root t n r) fits.3)
