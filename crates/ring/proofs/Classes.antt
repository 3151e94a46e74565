-- The classes of elements modulo b: there are as many as b's norm.
use Rattle.std.proofs.Common.{◌≡◌, ℕ, zero, suc, ◌+◌, ◌-◌, ◌*◌, ◌/◌, ◌%◌, ◌<◌, ◌≤◌, ◌⊎◌, [], ◌∷◌, ℤ, pos, negsuc, ◌+ℤ◌, ◌-ℤ◌, ◌*ℤ◌, ◌≤ℤ◌, sym, refl, ap, ◌∙◌, subst, ap₂, subst₂, inl, inr, ⊎_elim, mul-le-mul_right, mod-lt, div-lt_iff_lt-mul, mul-le-mul, div-add-mod', arith}
use mathlib.Core.Path.{subst₃}
use native.Mathlib.Nat.{div-add-mod}
use lib.Arith.{digits_div, digits_mod}
use native.Mathlib.Decide.{dec_lt}
use borrow.Author.Differences.{ints}
use Rattle.ring.specs.Elem.{Elem, add, sub, 𝟘}
use Rattle.ring.specs.System.{System, mul, norm}
use Rattle.ring.specs.Class.{Divides}
use Rattle.ring.proofs.Integers.{lin}
use Rattle.ring.proofs.Polynomials.{var, ◌⊗◌, solve}
use Rattle.ring.proofs.Orders.{ord}
use Rattle.ring.proofs.Elements.{same, #, mulx, subx, normx, A, B, env1, env2, mul_assoc, mul_add, mul_sub, sub_self, sub_between, sub_chain, sub_sub, sub_sums, sub_add_left, add_sub_left}
use Rattle.ring.proofs.Norms.{cancel, conj, conjx}
use Rattle.ring.proofs.Division.{divides?}
use Rattle.ring.proofs.Pigeonhole.{pigeonhole, below}

-- r 0 .. r (N − 1) has exactly one element of each class of R among the elements of Q
pub record Reps (Q : Elem → Type 0) (R : Elem → Elem → Type 0) (N : ℕ) (r : ℕ → Elem) : Type 0 where
  pub within : (k : ℕ) → k < N → Q (r k)
  pub some : (z : Elem) → Q z → (k : ℕ) × (k < N) × R z (r k)
  pub one : (i j : ℕ) → i < N → j < N → R (r i) (r j) → i ≡ j

module _ (Q : Elem → Type 0) (R : Elem → Elem → Type 0) (flip : (a b : Elem) → R a b → R b a) (chain : (a b c : Elem) → R a b → R b c → R a c) where
  -- no more than N elements of Q are pairwise of different classes
  pub at_most : (N : ℕ) (r : ℕ → Elem) → Reps Q R N r → (m : ℕ) (f : ℕ → Elem) → ((k : ℕ) → k < m → Q (f k)) → ((i j : ℕ) → i < j → j < m → ¬ (R (f i) (f j))) → m ≤ N
  at_most N r h m f q apart = pigeonhole N m place (λ i l. below i l (dec_lt i m)) (λ i j l k e. clash i j l k (dec_lt i m) (dec_lt j m) e)
    where
      index : (i : ℕ) → Dec (i < m) → ℕ
      index i (yes l) = (h.some (f i) (q i l)).0
      index i (no l) = 0

      place : ℕ → ℕ
      place i = index i (dec_lt i m)

      below : (i : ℕ) → i < m → (d : Dec (i < m)) → index i d < N
      below i l (yes k) = (h.some (f i) (q i k)).1
      below i l (no k) = absurd (k l)

      clash : (i j : ℕ) → i < j → j < m → (d : Dec (i < m)) (e : Dec (j < m)) → index i d ≡ index j e → ⊥
      clash i j l k (yes a) (yes b) x =
          apart i j l k (chain (f i) (r (index i (yes a))) (f j) (h.some (f i) (q i a)).2
          (flip (f j) (r (index i (yes a))) (subst (λ u. R (f j) (r u)) (sym x) (h.some (f j) (q j b)).2)))
      clash i j l k (no a) e x = absurd (a (omega arith))
      clash i j l k (yes a) (no b) x = absurd (b k)

-- ---- congruence modulo b
module _ (s : System) where
  abbrev pub Mod : Elem → Elem → Elem → Type 0
  Mod b a c = Divides s b (sub a c)

  pub mod_flip : (b a c : Elem) → Mod b a c → Mod b c a
  mod_flip b a c d = (sub (sub a a) d.0, mul_sub s b (sub a a) d.0 ∙ ap₂ sub (mul_sub s b a a ∙ sub_self (mul s b a) a) d.1 ∙ sub_between a c a)

  pub mod_chain : (b a c e : Elem) → Mod b a c → Mod b c e → Mod b a e
  mod_chain b a c e d f = (add d.0 f.0, mul_add s b d.0 f.0 ∙ ap₂ add d.1 f.1 ∙ sub_chain a c e)

  -- representatives modulo b·c from those modulo b and c
  module _ (Q : Elem → Type 0) (b c : Elem) (pos_b : pos 1 ≤ℤ norm s b) (keeps : (z y : Elem) → Mod b z y → Q y → Q z)
      (N : ℕ) (r : ℕ → Elem) (hr : Reps Q (Mod b) N r) (M : ℕ) (q : ℕ → Elem) (hq : Reps (λ _. Unit {0}) (Mod c) M q) (some_M : 0 < M) where
    unfoldable pub joint : ℕ → Elem
    joint k = add (r (k / M)) (mul s b (q (k % M)))

    in_row : (k : ℕ) → k < N * M → k / M < N
    in_row k h = (div-lt_iff_lt-mul some_M).1 h

    pub joint_reps : Reps Q (Mod (mul s b c)) (N * M) joint
    unfolding joint
    joint_reps = record { within = λ k h. keeps (joint k) (r (k / M)) (q' k) (hr.within (k / M) (in_row k h)); some = found; one = once }
      where
        q' : (k : ℕ) → Mod b (joint k) (r (k / M))
        q' k = (q (k % M), sym (add_sub_left (r (k / M)) (mul s b (q (k % M)))))

        found : (z : Elem) → Q z → (k : ℕ) × (k < N * M) × Mod (mul s b c) z (joint k)
        found z m =
            let i = hr.some z m in
            let j = hq.some i.2.0 tt in
            let e : mul s (mul s b c) j.2.0 ≡ sub z (add (r i.0) (mul s b (q j.0))) =
            mul_assoc s b c j.2.0 ∙ ap (mul s b) j.2.1 ∙ mul_sub s b i.2.0 (q j.0) ∙ ap (λ u. sub u (mul s b (q j.0))) i.2.1 ∙ sub_sub z (r i.0) (mul s b (q j.0)) in
            let l = mul-le-mul_right M i.1 in (
              i.0 * M + j.0,
              (let o = j.1 in omega arith),
              (j.2.0, e ∙ ap₂ (λ a b'. sub z (add (r a) (mul s b (q b')))) (sym (digits_div i.0 j.1)) (sym (digits_mod i.0 j.1))),
            )

        once : (k l : ℕ) → k < N * M → l < N * M → Mod (mul s b c) (joint k) (joint l) → k ≡ l
        once k l hk hl d =
            let u = sym (mul_assoc s b c d.0) ∙ d.1 in
            let i = hr.one (k / M) (l / M) (in_row k hk) (in_row l hl) (
              sub (mul s c d.0) (sub (q (k % M)) (q (l % M))),
              mul_sub s b (mul s c d.0) (sub (q (k % M)) (q (l % M)))
                  ∙ ap (sub (mul s b (mul s c d.0))) (mul_sub s b (q (k % M)) (q (l % M)))
                  ∙ sub_sums (r (k / M)) (mul s b (q (k % M))) (r (l / M)) (mul s b (q (l % M))) (mul s b (mul s c d.0)) u,
            ) in
            let v = sub_add_left (r (k / M)) (mul s b (q (k % M))) (mul s b (q (l % M))) (mul s b (mul s c d.0))
            (u ∙ ap (λ n. sub (joint k) (add (r n) (mul s b (q (l % M))))) (sym i)) in
            let j = hq.one (k % M) (l % M) (mod-lt k some_M) (mod-lt l some_M)
            (d.0, cancel s b (mul s c d.0) (sub (q (k % M)) (q (l % M))) pos_b (v ∙ sym (mul_sub s b (q (k % M)) (q (l % M))))) in
            sym (div-add-mod' k M) ∙ ap₂ (λ a b'. a * M + b') i j ∙ div-add-mod' l M

-- ---- a complete list is thinned to representatives
module _ (R : Elem → Elem → Type 0) (R? : (a b : Elem) → Dec (R a b)) (flip : (a b : Elem) → R a b → R b a) (own : (a : Elem) → R a a) where
  pub seek : (x : Elem) (r : ℕ → Elem) (m : ℕ) → ((j : ℕ) × (j < m) × R x (r j)) ⊎ ((j : ℕ) → j < m → ¬ (R x (r j)))
  seek x r zero = inr (λ j h. absurd (omega arith))
  seek x r (suc m) = by (seek x r m) (R? x (r m))
    where
      by : ((j : ℕ) × (j < m) × R x (r j)) ⊎ ((j : ℕ) → j < m → ¬ (R x (r j))) → Dec (R x (r m)) → ((j : ℕ) × (j < suc m) × R x (r j)) ⊎ ((j : ℕ) → j < suc m → ¬ (R x (r j)))
      by (inl t) d = inl (t.0, omega (arith, t.1), t.2)
      by (inr n) (yes h) = inl (m, omega arith, h)
      by (inr n) (no h) = inr (λ j l t. ⊎_elim (λ k. n j k t) (λ k. h (subst (λ u. R x (r u)) k t)) (below j m l))

  pick : (ℕ → Elem) → Elem → (k m : ℕ) → Dec (k < m) → Elem
  pick r x k m (yes h) = r k
  pick r x k m (no h) = x

  abbrev Thinned : ℕ → (ℕ → Elem) → Type 0
  Thinned N f = (M : ℕ) × (r : ℕ → Elem) × ((k : ℕ) → k < N → (j : ℕ) × (j < M) × R (f k) (r j)) × ((i j : ℕ) → i < M → j < M → R (r i) (r j) → i ≡ j)

  more : (N : ℕ) (f : ℕ → Elem) (t : Thinned N f) → ((j : ℕ) × (j < t.0) × R (f N) (t.1 j)) ⊎ ((j : ℕ) → j < t.0 → ¬ (R (f N) (t.1 j))) → Thinned (suc N) f
  unfolding pick
  more N f t (inl h) = (t.0, t.1, (λ k l. ⊎_elim (λ o. t.2 k o) (λ o. (h.0, h.1, subst (λ u. R (f u) (t.1 h.0)) (sym o) h.2)) (below k N l)), t.3)
  more N f t (inr n) = (suc t.0, next, covers, once)
    where
      next : ℕ → Elem
      next k = pick t.1 (f N) k t.0 (dec_lt k t.0)

      old : (k : ℕ) → k < t.0 → (d : Dec (k < t.0)) → pick t.1 (f N) k t.0 d ≡ t.1 k
      old k h (yes l) = refl
      old k h (no l) = absurd (l h)

      new : (k : ℕ) → k ≡ t.0 → (d : Dec (k < t.0)) → pick t.1 (f N) k t.0 d ≡ f N
      new k h (yes l) = absurd (omega arith)
      new k h (no l) = refl

      covers : (k : ℕ) → k < suc N → (j : ℕ) × (j < suc t.0) × R (f k) (next j)
      covers k l = ⊎_elim
          (λ o. let c = t.2 k o in (c.0, omega (arith, c.1), subst (R (f k)) (sym (old c.0 c.1 (dec_lt c.0 t.0))) c.2))
          (λ o. (t.0, omega arith, subst (R (f k)) (ap f o ∙ sym (new t.0 refl (dec_lt t.0 t.0))) (own (f k))))
          (below k N l)

      once : (i j : ℕ) → i < suc t.0 → j < suc t.0 → R (next i) (next j) → i ≡ j
      once i j a b h = ⊎_elim
          (λ o. ⊎_elim
          (λ u. t.3 i j o u (subst₂ R (old i o (dec_lt i t.0)) (old j u (dec_lt j t.0)) h))
          (λ u. absurd (n i o (flip (t.1 i) (f N) (subst₂ R (old i o (dec_lt i t.0)) (new j u (dec_lt j t.0)) h))))
          (below j t.0 b))
          (λ o. ⊎_elim
          (λ u. absurd (n j u (subst₂ R (new i o (dec_lt i t.0)) (old j u (dec_lt j t.0)) h)))
          (λ u. o ∙ sym u)
          (below j t.0 b))
          (below i t.0 a)

  thin : (N : ℕ) (f : ℕ → Elem) → Thinned N f
  thin zero f = (0, f, (λ k h. absurd (omega arith)), (λ i j a b h. absurd (omega arith)))
  thin (suc N) f = more N f (thin N f) (seek (f N) (thin N f).1 (thin N f).0)

  pub thin_reps : (N : ℕ) (f : ℕ → Elem) → ((z : Elem) → (k : ℕ) × (k < N) × R z (f k)) → ((a b c : Elem) → R a b → R b c → R a c) → (M : ℕ) × (r : ℕ → Elem) × Reps (λ _. Unit {0}) R M r
  thin_reps N f h chain =
      let t = thin N f in
      (t.0, t.1, record { within = λ k l. tt; some = λ z _. (let a = h z in let b = t.2 a.0 a.1 in (b.0, b.1, chain z (f a.0) (t.1 b.0) a.2 b.2)); one = t.3 })

-- ---- the box 0 ≤ x, y < p represents the classes modulo p
divided : (p : ℕ) → 0 < p → (m : ℤ) → (q : ℤ) × (r : ℕ) × (r < p) × (m ≡ pos p *ℤ q +ℤ pos r)
divided p o (pos a) = (pos (a / p), a % p, mod-lt a o, omega (arith, ints, div-add-mod a p))
divided p o (negsuc a) = (negsuc (a / p), p - 1 - a % p, (let h = mod-lt a o in omega arith), (let h = mod-lt a o in omega (arith, ints, div-add-mod a p)))

small_same : (p i j : ℕ) (q : ℤ) → i < p → j < p → pos p *ℤ q ≡ pos i -ℤ pos j → i ≡ j
small_same p i j (pos zero) a b e = omega (arith, ints)
small_same p i j (pos (suc q)) a b e = absurd (omega (arith, ints))
small_same p i j (negsuc q) a b e = absurd (omega (arith, ints))

module _ (s : System) (p : ℕ) (o : 0 < p) where
  abbrev whole : Elem
  whole = record { x = pos p; y = pos 0 }

  pub whole_mul : (q : Elem) → mul s whole q ≡ record { x = pos p *ℤ q.x; y = pos p *ℤ q.y }
  whole_mul q = same (mul s whole q) (record { x = pos p *ℤ q.x; y = pos p *ℤ q.y })
      (solve (s.t ∷ s.n ∷ pos p ∷ q.x ∷ q.y ∷ []) (mulx (var 2, # 0) (var 3, var 4)).0 (var 2 ⊗ var 3) tt)
      (solve (s.t ∷ s.n ∷ pos p ∷ q.x ∷ q.y ∷ []) (mulx (var 2, # 0) (var 3, var 4)).1 (var 2 ⊗ var 4) tt)

  abbrev box : ℕ → Elem
  box k = record { x = pos (k / p); y = pos (k % p) }

  box_some : (z : Elem) → (k : ℕ) × (k < p * p) × Mod s whole z (box k)
  box_some z =
      let a = divided p o z.x in
      let b = divided p o z.y in
      let l = mul-le-mul_right p a.2 in (
        a.1 * p + b.1,
        (let h = b.2 in omega arith),
        (
          record { x = a.0; y = b.0 },
          whole_mul (record { x = a.0; y = b.0 }) ∙
              same (record { x = pos p *ℤ a.0; y = pos p *ℤ b.0 }) (sub z (box (a.1 * p + b.1)))
              (let e = ap pos (digits_div a.1 b.2) in let h = a.3 in omega (arith, lin))
              (let e = ap pos (digits_mod a.1 b.2) in let h = b.3 in omega (arith, lin)),
        ),
      )

  box_reps : Reps (λ _. Unit {0}) (Mod s whole) (p * p) box
  box_reps = record {
    within = λ k h. tt;
    some = λ z _. box_some z;
    one = λ k l a b d. sym (div-add-mod' k p) ∙ ap₂ (λ i j. i * p + j)
        (small_same p (k / p) (l / p) d.0.x ((div-lt_iff_lt-mul o).1 a) ((div-lt_iff_lt-mul o).1 b) (ap (λ z. z.x) (sym (whole_mul d.0) ∙ d.1)))
        (small_same p (k % p) (l % p) d.0.y (mod-lt k o) (mod-lt l o) (ap (λ z. z.y) (sym (whole_mul d.0) ∙ d.1))) ∙ div-add-mod' l p;
  }

-- ---- the conjugate
module _ (s : System) where
  conj_mul_is : (a b : Elem) → conj s (mul s a b) ≡ mul s (conj s a) (conj s b)
  unfolding conj
  conj_mul_is a b = same (conj s (mul s a b)) (mul s (conj s a) (conj s b))
      (solve (env2 s a b) (conjx s (mulx A B)).0 (mulx (conjx s A) (conjx s B)).0 tt) (solve (env2 s a b) (conjx s (mulx A B)).1 (mulx (conjx s A) (conjx s B)).1 tt)

  conj_sub : (a b : Elem) → conj s (sub a b) ≡ sub (conj s a) (conj s b)
  unfolding conj
  conj_sub a b = same (conj s (sub a b)) (sub (conj s a) (conj s b))
      (solve (env2 s a b) (conjx s (subx A B)).0 (subx (conjx s A) (conjx s B)).0 tt) (solve (env2 s a b) (conjx s (subx A B)).1 (subx (conjx s A) (conjx s B)).1 tt)

  conj_conj : (a : Elem) → conj s (conj s a) ≡ a
  unfolding conj
  conj_conj a = same (conj s (conj s a)) a (solve (env1 s a) (conjx s (conjx s A)).0 (var 2) tt) (solve (env1 s a) (conjx s (conjx s A)).1 (var 3) tt)

  pub conj_whole : (b : Elem) (p : ℕ) → norm s b ≡ pos p → mul s b (conj s b) ≡ record { x = pos p; y = pos 0 }
  unfolding conj
  conj_whole b p e = same (mul s b (conj s b)) (record { x = pos p; y = pos 0 }) (solve (env1 s b) (mulx A (conjx s A)).0 (normx A) tt ∙ e) (solve (env1 s b) (mulx A (conjx s A)).1 (# 0) tt)

  mod_conj : (b a c : Elem) → Mod s b a c → Mod s (conj s b) (conj s a) (conj s c)
  mod_conj b a c d = (conj s d.0, sym (conj_mul_is b d.0) ∙ ap (conj s) d.1 ∙ conj_sub a c)

  conj_reps : (b : Elem) (N : ℕ) (r : ℕ → Elem) → Reps (λ _. Unit {0}) (Mod s b) N r → Reps (λ _. Unit {0}) (Mod s (conj s b)) N (λ k. conj s (r k))
  conj_reps b N r h = record {
    within = λ k l. tt;
    some = λ z _. (let a = h.some (conj s z) tt in (a.0, a.1, subst (λ u. Mod s (conj s b) u (conj s (r a.0))) (conj_conj z) (mod_conj b (conj s z) (r a.0) a.2)));
    one = λ i j a c d. h.one i j a c (subst₃ (λ u v w. Mod s u v w) (conj_conj b) (conj_conj (r i)) (conj_conj (r j)) (mod_conj (conj s b) (conj s (r i)) (conj s (r j)) d));
  }

  own : (b a : Elem) → Mod s b a a
  own b a = (sub a a, mul_sub s b a a ∙ sub_self (mul s b a) a)

  any : Elem → Type 0
  any z = Unit {0}

  -- two lists of representatives are as long
  as_long : (b : Elem) (N M : ℕ) (r q : ℕ → Elem) → Reps (λ _. Unit {0}) (Mod s b) N r → Reps (λ _. Unit {0}) (Mod s b) M q → N ≤ M
  as_long b N M r q h k = at_most (λ _. Unit {0}) (Mod s b) (mod_flip s b) (mod_chain s b) M q k N r (λ i l. tt) (λ i j a c d. let e = h.one i j (omega arith) c d in omega arith)

squares : (a b : ℕ) → a * a ≤ b * b → b * b ≤ a * a → a ≡ b
squares a b h k = by (dec_lt a b) (dec_lt b a)
  where
    by : Dec (a < b) → Dec (b < a) → a ≡ b
    by (yes l) d = absurd (omega (arith, mul-le-mul l l))
    by (no l) (yes m) = absurd (omega (arith, mul-le-mul m m))
    by (no l) (no m) = omega arith

-- there are p classes modulo an element of norm p
pub classes : (s : System) (b : Elem) (p : ℕ) → 1 ≤ p → norm s b ≡ pos p → (r : ℕ → Elem) × Reps (λ _. Unit {0}) (Mod s b) p r
classes s b p o e =
    let w : Elem = record { x = pos p; y = pos 0 } in
    let t = thin_reps (Mod s b) (λ x y. divides? s b p o e (sub x y)) (mod_flip s b) (own s b) (p * p) (box s p o)
    (λ z. let a = box_some s p o z in (a.0, a.1, (mul s (conj s b) a.2.0, sym (mul_assoc s b (conj s b) a.2.0) ∙ ap (λ u. mul s u a.2.0) (conj_whole s b p e) ∙ a.2.1)))
    (mod_chain s b) in
    let N = t.0 in
    let z = t.2.some 𝟘 tt in
    let j = joint_reps s (λ _. Unit {0}) b (conj s b) (omega (arith, ord)) (λ _ _ _ _. tt) N t.1 t.2 N (λ k. conj s (t.1 k)) (conj_reps s b N t.1 t.2) (let h = z.1 in omega arith) in
    let j' = subst (λ u. Reps (λ _. Unit {0}) (Mod s u) (N * N) (joint s (λ _. Unit {0}) b (conj s b) (omega (arith, ord)) (λ _ _ _ _. tt) N t.1 t.2 N (λ k. conj s (t.1 k)) (conj_reps s b N t.1 t.2) (let h = z.1 in omega arith))) (conj_whole s b p e) j in
    let n = squares N p (as_long s w (N * N) (p * p) _ (box s p o) j' (box_reps s p o)) (as_long s w (p * p) (N * N) (box s p o) _ (box_reps s p o) j') in
    (t.1, subst (λ u. Reps (λ _. Unit {0}) (Mod s b) u t.1) n t.2)
