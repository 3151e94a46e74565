-- The laws of times and act where every value of the carrier is a point.
use Rattle.std.proofs.Common.{◌≡◌, ℕ, zero, suc, ℤ, pos, negsuc, ◌+ℤ◌, ◌-ℤ◌, ◌*ℤ◌, neg_ℤ, sym, refl, ap, ◌∙◌, arith}
use borrow.Author.Differences.{ints}
use lib.IntN.{suc_ℤ, pred_ℤ, suc-pred, suc_ℤ-+ℤ, pred_ℤ-+ℤ, +ℤ_idl, *ℤ_comm}
use Rattle.ring.specs.Elem.{Elem, add, 𝟘, 𝟙}
use Rattle.ring.specs.System.{System, mul}
use Rattle.ring.proofs.Integers.{add_mul, neg_mul}
use Rattle.engine.specs.Meaning.{Meaning, times_n, times, act}
use Rattle.engine.specs.Rings.{Over}

pub record Free {C : Type 0} (m : Meaning C) : Type 0 where
  pub comm : (p q : C) → m.sum p q ≡ m.sum q p
  pub assoc : (p q r : C) → m.sum (m.sum p q) r ≡ m.sum p (m.sum q r)
  pub unit : (p : C) → m.sum p m.origin ≡ p
  pub cancels : (p : C) → m.sum p (m.opposite p) ≡ m.origin
  pub θ_sum : (p q : C) → m.θ (m.sum p q) ≡ m.sum (m.θ p) (m.θ q)
  pub square : (p : C) → m.sum (m.θ (m.θ p)) (times m m.n p) ≡ times m m.t (m.θ p)

module _ {C : Type 0} {m : Meaning C} (l : Free m) where
  unit_l : (p : C) → m.sum m.origin p ≡ p
  unit_l p = l.comm m.origin p ∙ l.unit p

  comm_l : (p q r : C) → m.sum p (m.sum q r) ≡ m.sum q (m.sum p r)
  comm_l p q r = sym (l.assoc p q r) ∙ ap (λ z. m.sum z r) (l.comm p q) ∙ l.assoc q p r

  undo : (p q : C) → m.sum (m.opposite p) (m.sum p q) ≡ q
  undo p q = sym (l.assoc (m.opposite p) p q) ∙ ap (λ z. m.sum z q) (l.comm (m.opposite p) p ∙ l.cancels p) ∙ unit_l q

  cancel_l : (p q r : C) → m.sum p q ≡ m.sum p r → q ≡ r
  cancel_l p q r e = sym (undo p q) ∙ ap (m.sum (m.opposite p)) e ∙ undo p r

  -- what adds up to the origin is the opposite
  opposite_is : (p q : C) → m.sum p q ≡ m.origin → q ≡ m.opposite p
  opposite_is p q e = cancel_l p q (m.opposite p) (e ∙ sym (l.cancels p))

  times_suc : (k : ℤ) (p : C) → times m (suc_ℤ k) p ≡ m.sum p (times m k p)
  unfolding times times_n
  times_suc (pos k) p = refl
  times_suc (negsuc zero) p = sym (l.cancels p) ∙ ap (λ z. m.sum p (m.opposite z)) (sym (l.unit p))
  times_suc (negsuc (suc k)) p = sym (opposite_is (times_n m (suc k) p) (m.sum p (m.opposite (m.sum p (times_n m (suc k) p)))) (sym (l.assoc (times_n m (suc k) p) p _) ∙ ap (λ z. m.sum z (m.opposite (m.sum p (times_n m (suc k) p)))) (l.comm (times_n m (suc k) p) p) ∙ l.cancels (m.sum p (times_n m (suc k) p))))

  times_pred : (k : ℤ) (p : C) → times m k p ≡ m.sum p (times m (pred_ℤ k) p)
  times_pred k p = ap (λ z. times m z p) (sym (suc-pred k)) ∙ times_suc (pred_ℤ k) p

  add_pred : (a b : ℤ) (p : C) → times m (a +ℤ b) p ≡ m.sum (times m a p) (times m b p) → times m (pred_ℤ a +ℤ b) p ≡ m.sum (times m (pred_ℤ a) p) (times m b p)
  add_pred a b p e =
      cancel_l p (times m (pred_ℤ a +ℤ b) p) (m.sum (times m (pred_ℤ a) p) (times m b p))
      (ap (λ z. m.sum p (times m z p)) (pred_ℤ-+ℤ a b) ∙ sym (times_pred (a +ℤ b) p) ∙ e ∙ ap (λ z. m.sum z (times m b p)) (times_pred a p) ∙ l.assoc p (times m (pred_ℤ a) p) (times m b p))

  times_zero : (p : C) → times m (pos 0) p ≡ m.origin
  unfolding times times_n
  times_zero p = refl

  add_zero : (b : ℤ) (p : C) → times m (pos 0 +ℤ b) p ≡ m.sum (times m (pos 0) p) (times m b p)
  add_zero b p = ap (λ z. times m z p) (+ℤ_idl b) ∙ sym (unit_l (times m b p)) ∙ ap (λ z. m.sum z (times m b p)) (sym (times_zero p))

  times_add : (a b : ℤ) (p : C) → times m (a +ℤ b) p ≡ m.sum (times m a p) (times m b p)
  times_add (pos zero) b p = add_zero b p
  times_add (pos (suc k)) b p = ap (λ z. times m z p) (suc_ℤ-+ℤ (pos k) b) ∙ times_suc (pos k +ℤ b) p ∙ ap (m.sum p) (times_add (pos k) b p) ∙ sym (l.assoc p (times m (pos k) p) (times m b p)) ∙ ap (λ z. m.sum z (times m b p)) (sym (times_suc (pos k) p))
  times_add (negsuc zero) b p = add_pred (pos zero) b p (add_zero b p)
  times_add (negsuc (suc k)) b p = add_pred (negsuc k) b p (times_add (negsuc k) b p)

  times_one : (p : C) → times m (pos 1) p ≡ p
  unfolding times times_n
  times_one p = l.unit p

  -- an additive map on the whole numbers is a multiple of its value at 1
  module _ (f : ℤ → C) (adds : (a b : ℤ) → f (a +ℤ b) ≡ m.sum (f a) (f b)) where
    map_zero : f (pos 0) ≡ m.origin
    map_zero = cancel_l (f (pos 0)) (f (pos 0)) m.origin (sym (adds (pos 0) (pos 0)) ∙ sym (l.unit (f (pos 0))))

    map_nat : (k : ℕ) → f (pos k) ≡ times_n m k (f (pos 1))
    unfolding times_n
    map_nat zero = map_zero
    map_nat (suc k) = ap f (let e : pos (suc k) ≡ pos 1 +ℤ pos k = omega (arith, ints) in e) ∙ adds (pos 1) (pos k) ∙ ap (m.sum (f (pos 1))) (map_nat k)

    map_is : (k : ℤ) → f k ≡ times m k (f (pos 1))
    unfolding times
    map_is (pos k) = map_nat k
    map_is (negsuc k) =
        opposite_is (times_n m (suc k) (f (pos 1))) (f (negsuc k))
        (ap (λ z. m.sum z (f (negsuc k))) (sym (map_nat (suc k))) ∙ sym (adds (pos (suc k)) (negsuc k)) ∙ ap f (let e : pos (suc k) +ℤ negsuc k ≡ pos 0 = omega (arith, ints) in e) ∙ map_zero)

  swap : (p q r s : C) → m.sum (m.sum p q) (m.sum r s) ≡ m.sum (m.sum p r) (m.sum q s)
  swap p q r s = l.assoc p q (m.sum r s) ∙ ap (m.sum p) (comm_l q r s) ∙ sym (l.assoc p r (m.sum q s))

  times_sum : (k : ℤ) (p q : C) → times m k (m.sum p q) ≡ m.sum (times m k p) (times m k q)
  times_sum k p q =
      ap (times m k) (ap (λ z. m.sum z q) (sym (times_one p)) ∙ ap (m.sum (times m (pos 1) p)) (sym (times_one q))) ∙
      sym (map_is (λ a. m.sum (times m a p) (times m a q)) (λ a b. ap (λ z. m.sum z (times m (a +ℤ b) q)) (times_add a b p) ∙ ap (m.sum (m.sum (times m a p) (times m b p))) (times_add a b q) ∙ swap (times m a p) (times m b p) (times m a q) (times m b q)) k)

  times_times : (a b : ℤ) (p : C) → times m (a *ℤ b) p ≡ times m a (times m b p)
  times_times a b p =
      map_is (λ k. times m (k *ℤ b) p) (λ c d. ap (λ z. times m z p) (add_mul c d b) ∙ times_add (c *ℤ b) (d *ℤ b) p) a ∙
      ap (λ z. times m a (times m z p)) (let e : pos 1 *ℤ b ≡ b = omega (arith, ints) in e)

  times_θ : (k : ℤ) (p : C) → m.θ (times m k p) ≡ times m k (m.θ p)
  times_θ k p = map_is (λ a. m.θ (times m a p)) (λ a b. ap m.θ (times_add a b p) ∙ l.θ_sum (times m a p) (times m b p)) k ∙ ap (λ z. times m k (m.θ z)) (times_one p)

  θθ : (p : C) → m.θ (m.θ p) ≡ m.sum (times m (neg_ℤ m.n) p) (times m m.t (m.θ p))
  θθ p =
      cancel_l (times m m.n p) (m.θ (m.θ p)) (m.sum (times m (neg_ℤ m.n) p) (times m m.t (m.θ p)))
      (l.comm (times m m.n p) (m.θ (m.θ p)) ∙ l.square p ∙ sym (unit_l (times m m.t (m.θ p))) ∙ ap (λ z. m.sum z (times m m.t (m.θ p))) (sym (times_zero p) ∙ ap (λ z. times m z p) (let e : pos 0 ≡ m.n +ℤ neg_ℤ m.n = omega (arith, ints) in e) ∙ times_add m.n (neg_ℤ m.n) p) ∙ l.assoc (times m m.n p) (times m (neg_ℤ m.n) p) (times m m.t (m.θ p)))

  pub act_add : (a b : Elem) (p : C) → act m (add a b) p ≡ m.sum (act m a p) (act m b p)
  unfolding act
  act_add a b p = ap (λ z. m.sum z (times m (a.y +ℤ b.y) (m.θ p))) (times_add a.x b.x p) ∙ ap (m.sum (m.sum (times m a.x p) (times m b.x p))) (times_add a.y b.y (m.θ p)) ∙ swap (times m a.x p) (times m b.x p) (times m a.y (m.θ p)) (times m b.y (m.θ p))

  pub act_sum : (a : Elem) (p q : C) → act m a (m.sum p q) ≡ m.sum (act m a p) (act m a q)
  unfolding act
  act_sum a p q = ap (λ z. m.sum (times m a.x (m.sum p q)) (times m a.y z)) (l.θ_sum p q) ∙ ap (λ z. m.sum z (times m a.y (m.sum (m.θ p) (m.θ q)))) (times_sum a.x p q) ∙ ap (m.sum (m.sum (times m a.x p) (times m a.x q))) (times_sum a.y (m.θ p) (m.θ q)) ∙ swap (times m a.x p) (times m a.x q) (times m a.y (m.θ p)) (times m a.y (m.θ q))

  pub act_zero : (p : C) → act m 𝟘 p ≡ m.origin
  unfolding act times times_n
  act_zero p = l.unit m.origin

  pub act_one : (p : C) → act m 𝟙 p ≡ p
  unfolding act times times_n
  act_one p = l.unit (m.sum p m.origin) ∙ l.unit p

  act_parts : (a b : Elem) (p : C) → act m a (act m b p) ≡ m.sum (m.sum (times m (a.x *ℤ b.x) p) (times m (a.x *ℤ b.y) (m.θ p))) (m.sum (times m (a.y *ℤ b.x) (m.θ p)) (m.sum (times m (a.y *ℤ b.y *ℤ neg_ℤ m.n) p) (times m (a.y *ℤ b.y *ℤ m.t) (m.θ p))))
  unfolding act
  act_parts a b p = simp (act, l.θ_sum, times_θ, θθ, times_sum, times_times)

  pub act_mul : (s : System) → Over s m → (a b : Elem) (p : C) → act m (mul s a b) p ≡ act m a (act m b p)
  unfolding act
  act_mul s over a b p =
      let k : ℤ = a.y *ℤ b.y in
      let xx : ℤ = a.x *ℤ b.x in
      let xy : ℤ = a.x *ℤ b.y in
      let yx : ℤ = a.y *ℤ b.x in
      let ex : xx -ℤ s.n *ℤ k ≡ xx +ℤ k *ℤ neg_ℤ m.n = ap (λ z. xx +ℤ z) (sym (neg_mul s.n k) ∙ *ℤ_comm (neg_ℤ s.n) k ∙ ap (λ z. k *ℤ neg_ℤ z) (sym over.same_n)) in
      let ey : xy +ℤ yx +ℤ s.t *ℤ k ≡ xy +ℤ yx +ℤ k *ℤ m.t = ap (λ z. xy +ℤ yx +ℤ z) (*ℤ_comm s.t k ∙ ap (λ z. k *ℤ z) (sym over.same_t)) in
      let q = m.θ p in
      ap (λ z. m.sum (times m z p) (times m (xy +ℤ yx +ℤ s.t *ℤ k) q)) ex ∙
      ap (λ z. m.sum (times m (xx +ℤ k *ℤ neg_ℤ m.n) p) (times m z q)) ey ∙
      simp (times_add, l.assoc, comm_l) (sym (simp l.assoc at (act_parts a b p)))
