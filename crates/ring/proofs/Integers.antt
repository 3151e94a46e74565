-- The laws of ℤ that lib.IntN lacks.
use Rattle.std.proofs.Common.{◌≡◌, ◌*◌, ℤ, ◌+ℤ◌, ◌*ℤ◌, neg_ℤ, ap, arith}
use borrow.Author.Differences.{up, down, ints, product_is, sum_is_lem, same_in, same_out, neg_is}

-- linear arithmetic of ℤ: a product is an atom
pub ruleset lin = (same_out, same_in, sum_is_lem, neg_is)

pub mul_assoc : (a b c : ℤ) → (a *ℤ b) *ℤ c ≡ a *ℤ (b *ℤ c)
mul_assoc a b c =
    let ab = product_is a b in
    let bc = product_is b c in
    omega (
      arith,
      ints,
      ap (λ x. x * up c) ab.0,
      ap (λ x. x * down c) ab.0,
      ap (λ x. x * up c) ab.1,
      ap (λ x. x * down c) ab.1,
      ap (λ x. up a * x) bc.0,
      ap (λ x. down a * x) bc.0,
      ap (λ x. up a * x) bc.1,
      ap (λ x. down a * x) bc.1,
    )

pub mul_add : (a b c : ℤ) → a *ℤ (b +ℤ c) ≡ a *ℤ b +ℤ a *ℤ c
mul_add a b c =
    let s = sum_is_lem b c in
    omega (arith, ints, ap (λ x. up a * x) s, ap (λ x. down a * x) s)

pub add_mul : (a b c : ℤ) → (a +ℤ b) *ℤ c ≡ a *ℤ c +ℤ b *ℤ c
add_mul a b c =
    let s = sum_is_lem a b in
    omega (arith, ints, ap (λ x. x * up c) s, ap (λ x. x * down c) s)

pub neg_mul : (a b : ℤ) → neg_ℤ a *ℤ b ≡ neg_ℤ (a *ℤ b)
neg_mul a b =
    let s = neg_is a in
    omega (arith, ints, ap (λ x. x * up b) s.0, ap (λ x. x * down b) s.0, ap (λ x. x * up b) s.1, ap (λ x. x * down b) s.1)
