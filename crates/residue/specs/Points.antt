-- The points of a residue engine: their multiples, and that its meaning is lawful.
use Rattle.std.specs.Prelude.{◌≡◌, ℕ, zero, suc, ◌+◌, ◌-◌, ◌*◌, ◌/◌, ◌%◌, ◌<◌, ◌&&◌, T, ℤ, pos, negsuc, ◌-ℤ◌, ◌*ℤ◌, ◌≤ℤ◌, ◌==◌, int_lt, int_rem, unsigned_abs, refl}
use Rattle.std.specs.Int.{int_rem_euclid}
use Rattle.std.proofs.Common.{sym, subst, ◌∙◌, arith, mod-lt, mod-eq_of_lt, zero-mul, ltb→lt, lt→ltb, eqb→eq, div-add-mod'}
use Rattle.std.proofs.lemmas.Int.{int_rem_euclid_is}
use Rattle.std.proofs.Math.Path.{ap}
use Rattle.std.proofs.Math.Nat.{mod_self, mod-add-mod, add-mod-mod, zero-mod}
use borrow.Author.Differences.{ints, up, down}
use Rattle.std.specs.Int.Signed.{non_neg}
use Rattle.std.specs.Float.Ieee.Fits.{and_i, and_l, and_r}
use Rattle.engine.specs.Meaning.{Meaning, LawfulMeaning, times_n, times}
use Rattle.engine.specs.Rings.{InRing}
use Rattle.engine.specs.declared.Point.{Point}
use Rattle.residue.specs.Residue.{at, residue, at_root, Modulus}
use Rattle.residue.specs.Mods.{mul_mod_r, mul_cong, add_mods, opposite_is, divided}

-- k times v modulo m
abbrev mul_mod : ℕ → ℤ → ℕ → ℕ
mul_mod m (pos k) v = k * v % m
mul_mod m (negsuc k) v = (m - suc k * v % m) % m

module _ (t n : ℤ) (m r g : ℕ) (modulus : Modulus (pos m)) where
  abbrev M : Meaning Point
  M = residue t n (pos m) (pos r) (pos g)

  positive : 0 < m
  positive = omega (arith, ints)

  at_point : (a : ℕ) → a < m → T (M.is_point (at (pos a)))
  at_point a h = and_i (non_neg (pos a) && int_lt (pos a) (pos m)) (0 == 0) (and_i (non_neg (pos a)) (int_lt (pos a) (pos m)) tt (lt→ltb a m h)) tt

  mod_point : (a : ℕ) → T (M.is_point (at (pos (a % m))))
  mod_point a = at_point (a % m) (mod-lt a positive)

  value : (u v : ℤ) → T (non_neg u && int_lt u (pos m)) → T (unsigned_abs v == 0) → (a : ℕ) × (a < m) × (at (pos a) ≡ record { u = u; v = v })
  value (pos a) (pos b) h k = (a, ltb→lt a m (and_r (non_neg (pos a)) (int_lt (pos a) (pos m)) h), ap (λ (z : ℕ). record { u = pos a; v = pos z }) (sym (eqb→eq b 0 k)))
  value (negsuc a) v h k = absurd (and_l (non_neg (negsuc a)) (int_lt (negsuc a) (pos m)) h)
  value (pos a) (negsuc b) h k = let e : suc b ≡ 0 = eqb→eq (suc b) 0 k in absurd (omega arith)

  -- what holds of every (a,0) with a below m holds of every point
  each : (P : Point → Type 0) → ((a : ℕ) → a < m → P (at (pos a))) → (p : Point) → T (M.is_point p) → P p
  each P f p h =
      let v = value p.u p.v (and_l (non_neg p.u && int_lt p.u (pos m)) (unsigned_abs p.v == 0) h) (and_r (non_neg p.u && int_lt p.u (pos m)) (unsigned_abs p.v == 0) h) in
      subst P v.2 (f v.0 v.1)

  opposite_at : (a : ℕ) → a < m → M.opposite (at (pos a)) ≡ at (pos ((m - a) % m))
  opposite_at a h = ap (λ z. at (int_rem z (pos m))) (let e : pos m -ℤ pos a ≡ pos (m - a) = omega (arith, ints) in e)

  times_n_at : (k a : ℕ) → times_n M k (at (pos a)) ≡ at (pos (k * a % m))
  unfolding times_n
  times_n_at zero a = ap (λ z. at (pos z)) (sym (ap (λ (z : ℕ). z % m) (zero-mul a) ∙ zero-mod m))
  times_n_at (suc k) a = ap (M.sum (at (pos a))) (times_n_at k a) ∙ ap (λ z. at (pos z)) (add-mod-mod a (k * a) m ∙ ap (λ (z : ℕ). z % m) (omega arith))

  times_at : (k : ℤ) (a : ℕ) → times M k (at (pos a)) ≡ at (pos (mul_mod m k a))
  unfolding times
  times_at (pos k) a = times_n_at k a
  times_at (negsuc k) a = ap M.opposite (times_n_at (suc k) a) ∙ opposite_at (suc k * a % m) (mod-lt (suc k * a) positive)

  -- k times a point is the residue of the product
  pub times_is : (k : ℤ) (a : ℕ) → times M k (at (pos a)) ≡ at (int_rem_euclid (k *ℤ pos a) (pos m))
  times_is (pos k) a = times_at (pos k) a
  times_is (negsuc k) a =
      let split = div-add-mod' (suc k * a) m in
      let small = mod-lt (suc k * a) positive in
      times_at (negsuc k) a ∙ sym (ap at (int_rem_euclid_is (negsuc k *ℤ pos a) (pos m) m (suc k * a / m + 1) (m - suc k * a % m) positive refl (omega (arith, ints, split, small))))

  module _ (ring : InRing t n) (root : int_rem (at_root t n (pos r)) (pos m) ≡ pos 0) (start : g < m) where
    -- r² + n and t·r are one residue, each negative part on the other side
    rooted : (k : ℕ) → n ≡ pos k → (r * r + k + down t * r) % m ≡ up t * r % m
    rooted k e = divided (at_root t n (pos r)) (r * r + k + down t * r) (up t * r) m (omega (arith, ints, ap up e, ap down e)) root

    reduced : (k a : ℕ) → (r * (r * a % m) % m + k * a % m) % m ≡ a * (r * r + k) % m
    reduced k a = add_mods (r * (r * a % m)) (k * a) m ∙ sym (mod-add-mod (r * (r * a % m)) m (k * a)) ∙ ap (λ (z : ℕ). (z + k * a) % m) (mul_mod_r r (r * a) m) ∙ mod-add-mod (r * (r * a)) m (k * a) ∙ ap (λ (z : ℕ). z % m) (omega arith)

    square_by : (s : ℤ) (k a : ℕ) → (r * r + k + down s * r) % m ≡ up s * r % m → (r * (r * a % m) % m + k * a % m) % m ≡ mul_mod m s (r * a % m)
    square_by (pos j) k a e = reduced k a ∙ ap (λ (z : ℕ). a * z % m) (omega arith) ∙ mul_cong a (r * r + k + 0 * r) (j * r) m e ∙ ap (λ (z : ℕ). z % m) (omega arith) ∙ sym (mul_mod_r j (r * a) m)
    square_by (negsuc j) k a e =
        let x = r * (r * a % m) % m + k * a % m in
        let y = suc j * (r * a % m) in
        opposite_is x y m positive
        (sym (add_mods x y m) ∙ ap (λ (z : ℕ). (z + y % m) % m) (reduced k a) ∙ ap (λ (z : ℕ). (a * (r * r + k) % m + z) % m) (mul_mod_r (suc j) (r * a) m) ∙ add_mods (a * (r * r + k)) (suc j * (r * a)) m ∙ ap (λ (z : ℕ). z % m) (omega arith) ∙ mul_cong a (r * r + k + suc j * r) (0 * r) m e ∙ ap (λ (z : ℕ). z % m) (omega arith) ∙ zero-mod m)

    natural : (z : ℤ) → pos 1 ≤ℤ z → z ≡ pos (unsigned_abs z)
    natural (pos k) h = refl
    natural (negsuc k) h = absurd (omega (arith, ints))

    square_at : (a : ℕ) → M.sum (M.θ (M.θ (at (pos a)))) (times M n (at (pos a))) ≡ times M t (M.θ (at (pos a)))
    square_at a =
        let e = natural n ring.2 in
        ap (M.sum (M.θ (M.θ (at (pos a))))) (times_at n a ∙ ap (λ z. at (pos (mul_mod m z a))) e) ∙ ap (λ z. at (pos z)) (square_by t (unsigned_abs n) a (rooted (unsigned_abs n) e)) ∙ sym (times_at t (r * a % m))

    pub lawful : LawfulMeaning M
    lawful = record {
      start_point = at_point g start;
      origin_point = at_point 0 positive;
      sum_point = λ p q h k. each (λ p. T (M.is_point (M.sum p q))) (λ a _. each (λ q. T (M.is_point (M.sum (at (pos a)) q))) (λ b _. mod_point (a + b)) q k) p h;
      opposite_point = each (λ p. T (M.is_point (M.opposite p))) (λ a h. subst (λ q. T (M.is_point q)) (sym (opposite_at a h)) (mod_point (m - a)));
      θ_point = each (λ p. T (M.is_point (M.θ p))) (λ a _. mod_point (r * a));
      comm = λ p q h k. each (λ p. M.sum p q ≡ M.sum q p) (λ a _. each (λ q. M.sum (at (pos a)) q ≡ M.sum q (at (pos a))) (λ b _. ap (λ (z : ℕ). at (pos (z % m))) (omega arith)) q k) p h;
      assoc = λ p q s h k l. each (λ p. M.sum (M.sum p q) s ≡ M.sum p (M.sum q s)) (λ a _. each (λ q. M.sum (M.sum (at (pos a)) q) s ≡ M.sum (at (pos a)) (M.sum q s)) (λ b _. each (λ s. M.sum (M.sum (at (pos a)) (at (pos b))) s ≡ M.sum (at (pos a)) (M.sum (at (pos b)) s)) (λ c _. ap (λ z. at (pos z)) (mod-add-mod (a + b) m c ∙ ap (λ (z : ℕ). z % m) (omega arith) ∙ sym (add-mod-mod a (b + c) m))) s l) q k) p h;
      unit = each (λ p. M.sum p M.origin ≡ p) (λ a h. ap (λ z. at (pos z)) (ap (λ (z : ℕ). z % m) (omega arith) ∙ mod-eq_of_lt h));
      cancels = each (λ p. M.sum p (M.opposite p) ≡ M.origin) (λ a h. ap (M.sum (at (pos a))) (opposite_at a h) ∙ ap (λ z. at (pos z)) (add-mod-mod a (m - a) m ∙ ap (λ (z : ℕ). z % m) (omega arith) ∙ mod_self m));
      θ_sum = λ p q h k. each (λ p. M.θ (M.sum p q) ≡ M.sum (M.θ p) (M.θ q)) (λ a _. each (λ q. M.θ (M.sum (at (pos a)) q) ≡ M.sum (M.θ (at (pos a))) (M.θ q)) (λ b _. ap (λ z. at (pos z)) (mul_mod_r r (a + b) m ∙ ap (λ (z : ℕ). z % m) (omega arith) ∙ sym (add_mods (r * a) (r * b) m))) q k) p h;
      square = each (λ p. M.sum (M.θ (M.θ p)) (times M n p) ≡ times M t (M.θ p)) (λ a _. square_at a);
    }
