-- Congruences modulo m, over the naturals.
use Rattle.std.specs.Prelude.{◌≡◌, ℕ, suc, ◌+◌, ◌-◌, ◌*◌, ◌/◌, ◌%◌, ◌<◌, ℤ, pos, negsuc, int_rem}
use Rattle.std.proofs.Common.{sym, ap, ◌∙◌, arith, div-add-mod', mod-lt}
use Rattle.std.proofs.Math.Nat.{add-mul-mod_self_right, mod-add-mod, add-mod-mod}
use borrow.Author.Differences.{up, down, neg_is}

pub mod_same : (a b k l m : ℕ) → a + k * m ≡ b + l * m → a % m ≡ b % m
mod_same a b k l m e = sym (add-mul-mod_self_right a k m) ∙ ap (λ (z : ℕ). z % m) e ∙ add-mul-mod_self_right b l m

pub mul_mod_r : (x y m : ℕ) → x * (y % m) % m ≡ x * y % m
mul_mod_r x y m = mod_same (x * (y % m)) (x * y) (x * (y / m)) 0 m (omega (arith, ap (λ (z : ℕ). x * z) (div-add-mod' y m)))

pub mul_cong : (a x y m : ℕ) → x % m ≡ y % m → a * x % m ≡ a * y % m
mul_cong a x y m e = sym (mul_mod_r a x m) ∙ ap (λ (z : ℕ). a * z % m) e ∙ mul_mod_r a y m

pub add_mods : (a b m : ℕ) → (a % m + b % m) % m ≡ (a + b) % m
add_mods a b m = mod-add-mod a m (b % m) ∙ add-mod-mod a b m

-- what makes 0 with y is y's opposite
pub opposite_is : (x y m : ℕ) → 0 < m → (x + y) % m ≡ 0 → x % m ≡ (m - y % m) % m
opposite_is x y m p e = mod_same x (m - y % m) (y / m + 1) ((x + y) / m) m (omega (arith, div-add-mod' y m, div-add-mod' (x + y) m, mod-lt y p))

-- z = x − y is divisible by m
pub divided : (z : ℤ) (x y m : ℕ) → up z + y ≡ down z + x → int_rem z (pos m) ≡ pos 0 → x % m ≡ y % m
divided (pos k) x y m e d = mod_same x y 0 (k / m) m (omega (arith, ap up d, div-add-mod' k m))
divided (negsuc k) x y m e d = mod_same x y (suc k / m) 0 m (omega (arith, ap down d, (neg_is (pos (suc k % m))).1, div-add-mod' (suc k) m))
