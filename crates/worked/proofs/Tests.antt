-- Tests that compute, and what they show: equality, several at once, all numbers below a bound, all elements of a box, division.
use Rattle.std.proofs.Common.{◌≡◌, ℕ, zero, suc, ◌+◌, ◌-◌, ◌*◌, ◌/◌, ◌<◌, ◌≤◌, Bool, true, false, not, T, eqb, ◌≢◌, List, [], ◌∷◌, ℤ, pos, negsuc, ◌+ℤ◌, ◌-ℤ◌, ◌*ℤ◌, neg_ℤ, nat_abs, sym, refl, ap, ◌∙◌, subst, ⊎_elim, mul-le-mul_left, arith, eqb→eq, T_not}
use native.Mathlib.Nat.{mul-div_cancel_left}
use borrow.Author.Differences.{ints}
use lib.Dec.{eqb_refl}
use lib.Signed.{quot_z}
use Rattle.std.specs.List.{AllByRecursion}
use Rattle.ring.specs.Elem.{Elem}
use Rattle.ring.specs.System.{System, mul, norm}
use Rattle.ring.specs.Class.{Divides}
use Rattle.ring.proofs.Elements.{same}
use Rattle.ring.proofs.Norms.{conj, conj_mul}
use Rattle.ring.proofs.Pigeonhole.{below}

-- ---- several at once
abbrev pub every : List Bool → Bool
every [] = true
every (b ∷ bs) = elim b [ true ↦ every bs | false ↦ false ]

pub every_is : (bs : List Bool) → T (every bs) → AllByRecursion T bs
every_is [] h = tt
every_is (true ∷ bs) h = (tt, every_is bs h)
every_is (false ∷ bs) h = absurd h

abbrev pub all_below : ℕ → (ℕ → Bool) → Bool
all_below zero f = true
all_below (suc n) f = elim (f n) [ true ↦ all_below n f | false ↦ false ]

pub each_below : (n : ℕ) (f : ℕ → Bool) → T (all_below n f) → (i : ℕ) → i < n → T (f i)
each_below zero f h i l = absurd (omega arith)
each_below (suc n) f h i l = go (f n) refl h (each_below n f)
  where
    go : (b : Bool) → f n ≡ b → T (elim b [ true ↦ all_below n f | false ↦ false ]) → (T (all_below n f) → (i : ℕ) → i < n → T (f i)) → T (f i)
    go true e h r = ⊎_elim (λ k. r h i k) (λ k. subst T (sym (ap f k ∙ e)) tt) (below i n l)
    go false e h r = absurd h

-- ---- equality
abbrev pub eq_z : ℤ → ℤ → Bool
eq_z (pos a) (pos b) = eqb a b
eq_z (pos a) (negsuc b) = false
eq_z (negsuc a) (pos b) = false
eq_z (negsuc a) (negsuc b) = eqb a b

pub eq_z_is : (a b : ℤ) → T (eq_z a b) → a ≡ b
eq_z_is (pos a) (pos b) h = ap pos (eqb→eq a b h)
eq_z_is (pos a) (negsuc b) h = absurd h
eq_z_is (negsuc a) (pos b) h = absurd h
eq_z_is (negsuc a) (negsuc b) h = ap negsuc (eqb→eq a b h)

pub eq_z_refl : (a : ℤ) → T (eq_z a a)
eq_z_refl (pos a) = eqb_refl a
eq_z_refl (negsuc a) = eqb_refl a

abbrev pub eq_e : Elem → Elem → Bool
eq_e a b = every (eq_z a.x b.x ∷ eq_z a.y b.y ∷ [])

pub eq_e_is : (a b : Elem) → T (eq_e a b) → a ≡ b
eq_e_is a b h = let q = every_is (eq_z a.x b.x ∷ eq_z a.y b.y ∷ []) h in same a b (eq_z_is a.x b.x q.0) (eq_z_is a.y b.y q.1.0)

pub every_from : (bs : List Bool) → AllByRecursion T bs → T (every bs)
every_from [] h = tt
every_from (true ∷ bs) h = every_from bs h.1
every_from (false ∷ bs) h = absurd h.0

pub eq_e_from : (a b : Elem) → a ≡ b → T (eq_e a b)
eq_e_from a b e = subst (λ u. T (eq_e a u)) e (every_from (eq_z a.x a.x ∷ eq_z a.y a.y ∷ []) (eq_z_refl a.x, (eq_z_refl a.y, tt)))

pub eq_e_not : (a b : Elem) → T (not (eq_e a b)) → a ≢ b
eq_e_not a b h e = T_not (eq_e a b) h (eq_e_from a b e)

-- ---- all elements of a box
abbrev pub place : ℕ → ℕ → ℕ → Elem
place X i j = record { x = pos i -ℤ pos X; y = pos j -ℤ pos X }

abbrev pub all_in : ℕ → (Elem → Bool) → Bool
all_in X f = all_below (2 * X + 1) (λ i. all_below (2 * X + 1) (λ j. f (place X i j)))

offset : (X : ℕ) (a : ℤ) → nat_abs a ≤ X → (i : ℕ) × (i < 2 * X + 1) × (pos i -ℤ pos X ≡ a)
offset X (pos n) h = (X + n, omega arith, omega (arith, ints))
offset X (negsuc n) h = (X - suc n, omega arith, omega (arith, ints))

pub each_in : (X : ℕ) (f : Elem → Bool) → T (all_in X f) → (z : Elem) → nat_abs z.x ≤ X → nat_abs z.y ≤ X → T (f z)
each_in X f h z k l =
    let i = offset X z.x k in
    let j = offset X z.y l in
    subst (λ u. T (f u)) (same (place X i.0 j.0) z i.2 j.2)
    (each_below (2 * X + 1) (λ b. f (place X i.0 b)) (each_below (2 * X + 1) (λ a. all_below (2 * X + 1) (λ b. f (place X a b))) h i.0 i.1) j.0 j.1)

-- ---- division by b, whose norm is m
abbrev pub bar : System → Elem → Elem
bar s b = record { x = b.x +ℤ s.t *ℤ b.y; y = neg_ℤ b.y }

bar_mul : (s : System) (b a : Elem) → ((mul s (bar s b) (mul s b a)).x ≡ norm s b *ℤ a.x) × ((mul s (bar s b) (mul s b a)).y ≡ norm s b *ℤ a.y)
unfolding conj
bar_mul s b a = conj_mul s b a

abbrev pub over : System → Elem → ℕ → Elem → Elem
over s b m z = let c = mul s (bar s b) z in record { x = quot_z c.x (pos m); y = quot_z c.y (pos m) }

abbrev pub dvd : System → Elem → ℕ → Elem → Bool
dvd s b m z = eq_e (mul s b (over s b m z)) z

pub dvd_is : (s : System) (b : Elem) (m : ℕ) (z : Elem) → T (dvd s b m z) → mul s b (over s b m z) ≡ z
dvd_is s b m z h = eq_e_is (mul s b (over s b m z)) z h

quot_mul : (m : ℕ) → 1 ≤ m → (q : ℤ) → quot_z (pos m *ℤ q) (pos m) ≡ q
quot_mul m o (pos k) = ap pos (mul-div_cancel_left k o)
quot_mul m o (negsuc k) = go (m * suc k) refl
  where
    go : (n : ℕ) → m * suc k ≡ n → quot_z (neg_ℤ (pos n)) (pos m) ≡ negsuc k
    go zero e = absurd (let l = mul-le-mul_left m (let u : 1 ≤ suc k = omega arith in u) in omega arith)
    go (suc j) e = ap (λ u. neg_ℤ (pos (u / m))) (sym e) ∙ ap (λ u. neg_ℤ (pos u)) (mul-div_cancel_left (suc k) o)

pub over_mul : (s : System) (b : Elem) (m : ℕ) → 1 ≤ m → norm s b ≡ pos m → (q : Elem) → over s b m (mul s b q) ≡ q
over_mul s b m o e q =
    same (over s b m (mul s b q)) q
    (ap (λ u. quot_z u (pos m)) ((bar_mul s b q).0 ∙ ap (λ u. u *ℤ q.x) e) ∙ quot_mul m o q.x)
    (ap (λ u. quot_z u (pos m)) ((bar_mul s b q).1 ∙ ap (λ u. u *ℤ q.y) e) ∙ quot_mul m o q.y)

pub dvd_from : (s : System) (b : Elem) (m : ℕ) → 1 ≤ m → norm s b ≡ pos m → (z : Elem) → Divides s b z → T (dvd s b m z)
dvd_from s b m o e z d =
    eq_e_from (mul s b (over s b m z)) z (ap (λ u. mul s b (over s b m u)) (sym d.1) ∙ ap (mul s b) (over_mul s b m o e d.0) ∙ d.1)

pub dvd_not : (s : System) (b : Elem) (m : ℕ) → 1 ≤ m → norm s b ≡ pos m → (z : Elem) → T (not (dvd s b m z)) → ¬ (Divides s b z)
dvd_not s b m o e z h d = T_not (dvd s b m z) h (dvd_from s b m o e z d)
