-- The elements before (norm, x, y) come to 0.
use Rattle.std.proofs.Common.{◌≡◌, ℕ, zero, suc, Option, None, Some, ◌+◌, ◌<◌, ℤ, pos, ◌+ℤ◌, neg_ℤ, ◌≤ℤ◌, ◌<ℤ◌, ◌⊎◌, sym, refl, ap, ◌∙◌, subst, inl, ⊎_elim, arith}
use native.Mathlib.Decide.{dec_lt}
use Rattle.std.proofs.lemmas.Int.{ints, by_lt_z}
use Rattle.ring.specs.Elem.{Elem, 𝟘}
use Rattle.ring.specs.System.{System, Lawful, size}
use Rattle.ring.specs.Verdict.{Before}
use Rattle.ring.proofs.Norms.{size_is, norm_zero}
use Rattle.ring.proofs.Magnitudes.{size_zero}
use Rattle.ring.proofs.Elements.{same}
use Rattle.ring.proofs.Trails.{never}
use Rattle.rounds.specs.Rounds.{after, Falls, Runs}
use Rattle.rounds.specs.declared.cycles.Orbit.{Orbit}
use Rattle.rounds.proofs.Orders.{to_before, of_before}
use Rattle.rounds.proofs.Trails.{from_there, steady}
use Rattle.finding.specs.Finding.{point, Ends, Inner, Bounds, First, Tried}
use Rattle.finding.proofs.Sink.{inside, ends_from}

-- each of norm n left of x
abbrev pub Left : (Elem → Elem) → System → ℕ → ℤ → Type 0
Left next s n x = (z : Elem) → size s z ≡ n → z.x <ℤ x → Ends next z

-- each of norm n in column x below y
abbrev pub Under : (Elem → Elem) → System → ℕ → ℤ → ℤ → Type 0
Under next s n x y = (z : Elem) → size s z ≡ n → z.x ≡ x → z.y <ℤ y → Ends next z

zero_only : (s : System) → Lawful s → (z : Elem) → size s z < 1 → z ≡ 𝟘
zero_only s g z h = norm_zero s g z (size_is s g z ∙ ap pos (omega arith))

pub none_zero : (next : Elem → Elem) (s : System) → Lawful s → Inner next s 1
none_zero next s g z h = (0, zero_only s g z h)

module _ (next : Elem → Elem) (s : System) (g : Lawful s) (n : ℕ) where
  before_ends : (x y : ℤ) → Inner next s n → Left next s n x → Under next s n x y → size s (point x y) ≡ n → (a : Elem) → Before s a (point x y) → Ends next a
  before_ends x y b l u e a h =
      ⊎_elim (λ k. b a (omega (arith, e))) (λ r. ⊎_elim (λ k. l a (r.0 ∙ e) k) (λ q. u a (r.0 ∙ e) q.0 q.1) r.1) (of_before s g a (point x y) h)

  falls_ends : (x y : ℤ) → Inner next s n → Left next s n x → Under next s n x y → size s (point x y) ≡ n → Falls next s (point x y) → Ends next (point x y)
  falls_ends x y b l u e f = ends_from next (point x y) f.0 (before_ends x y b l u e (after next f.0 (point x y)) f.1)

  pub under_more : (x y y' : ℤ) → y' ≡ y +ℤ pos 1 → Inner next s n → Left next s n x → Under next s n x y → (size s (point x y) ≡ n → Falls next s (point x y)) → Under next s n x y'
  under_more x y y' e b l u here z q m lt =
      by_lt_z z.y y (λ k. u z q m k)
      (λ ge. let w : z ≡ point x y = same z (point x y) m (omega (arith, ints)) in
      let q' : size s (point x y) ≡ n = ap (size s) (sym w) ∙ q in
      subst (Ends next) (sym w) (falls_ends x y b l u q' (here q')))

  -- 0 stays, so that what returns elsewhere never comes there
  stays : next 𝟘 ≡ 𝟘 → (z : Elem) (k m : ℕ) → after next k z ≡ 𝟘 → after next (k + m) z ≡ 𝟘
  stays r z k m e = sym (from_there next z k m _ refl) ∙ ap (after next m) e ∙ at m
    where
      at : (m : ℕ) → after next m 𝟘 ≡ 𝟘
      at zero = refl
      at (suc m) = ap next (at m) ∙ r

  pub found : next 𝟘 ≡ 𝟘 → 0 < n → (x y : ℤ) (lead period : ℕ) → Inner next s n → Left next s n x → Under next s n x y → size s (point x y) ≡ n → Runs next s (point x y) (Some (record { lead = lead; period = period })) → First next s (point x y) lead period
  found r o x y lead period b l u e t =
      let z = point x y in
      record {
        none = λ h. never (λ k. after next k z) (steady next z) (stays r z) t.1.0 t.1.1.0 t.1.1.1 t.1.1.2
            (λ q. t.1.2 (to_before s g (after next t.1.0 z) z (inl (subst (λ a. size s a < size s z) (sym q) (omega (arith, size_zero s g, e)))))) h.0 h.1;
        earlier = before_ends x y b l u e;
        round = t.0;
      }

  -- what lies outside the box is of larger norm
  module _ (c : ℤ) (o : pos 0 ≤ℤ c) (bounds : Bounds n c) where
    pub left_none : (low : ℤ) → low ≡ neg_ℤ c → Left next s n low
    left_none low e z q l = let i = inside s g n c bounds z (omega (arith, q)) in absurd (omega (arith, ints, i.0))

    pub under_none : (low x : ℤ) → low ≡ neg_ℤ c → Under next s n x low
    under_none low x e z q m l = let i = inside s g n c bounds z (omega (arith, q)) in absurd (omega (arith, ints, i.1))

    left_more : (x x' y : ℤ) → c <ℤ y → x' ≡ x +ℤ pos 1 → Left next s n x → Under next s n x y → Left next s n x'
    left_more x x' y past e l u z q lt =
        by_lt_z z.x x (λ k. l z q k)
        (λ ge. let i = inside s g n c bounds z (omega (arith, q)) in u z q (omega (arith, ints)) (omega (arith, ints, i.1)))

    below_more : (x : ℤ) → c <ℤ x → Inner next s n → Left next s n x → Inner next s (n + 1)
    below_more x past b l z h = by (dec_lt (size s z) n)
      where
        by : Dec (size s z < n) → Ends next z
        by (yes k) = b z k
        by (no k) = let q : size s z ≡ n = omega arith in let i = inside s g n c bounds z (omega arith) in l z q (omega (arith, ints, i.0))

    -- a loop over −c to c ends before a turn past c, or after the turn at c
    pub column_done : (x x' y : ℤ) → x' ≡ x +ℤ pos 1 → Inner next s n → Left next s n x → Under next s n x y →
        (c <ℤ y) ⊎ ((c ≤ℤ y) × (size s (point x y) ≡ n → Falls next s (point x y))) → Left next s n x'
    column_done x x' y e b l u = ⊎_elim (λ past. left_more x x' y past e l u)
        (λ r. left_more x x' (y +ℤ pos 1) (omega (arith, ints, r.0)) e l (under_more x y (y +ℤ pos 1) refl b l u r.1))

    pub rows_done : (x : ℤ) → Inner next s n → Left next s n x → (c <ℤ x) ⊎ ((c ≤ℤ x) × Left next s n (x +ℤ pos 1)) → Inner next s (n + 1)
    rows_done x b l = ⊎_elim (λ past. below_more x past b l) (λ r. below_more (x +ℤ pos 1) (omega (arith, ints, r.0)) b r.1)

-- how the trail of an element of norm n goes
pub tried_is : (next : Elem → Elem) (s : System) (n : ℕ) (z : Elem) (r : Option Orbit) → size s z ≡ n → Runs next s z r → Tried next s n z r
tried_is next s n z None e h = λ _. h
tried_is next s n z (Some o) e h = (e, h)
