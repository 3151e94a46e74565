-- The step as a function that computes: over a full set it is the step of every element, so its walk is the trail.
use Rattle.std.proofs.Common.{◌≡◌, ℕ, zero, suc, ◌-◌, ◌*◌, ◌^◌, ◌<◌, ◌≤◌, Bool, true, false, not, T, eqb, leb, List, [], ◌∷◌, length, get_or, pos, negsuc, sym, refl, ap, ◌∙◌, subst, inl, inr, arith, eqb→eq, leb→le}
use native.Mathlib.Decide.{dec_lt}
use lib.Signed.{le_z, le_z_yes}
use Rattle.std.specs.List.{ContainsAt as Has, AllByRecursion}
use Rattle.std.proofs.ByRecursion.{has_get_or}
use Rattle.ring.specs.Elem.{Elem, sub, 𝟘}
use Rattle.ring.specs.System.{System, Lawful, mul, norm, pow}
use Rattle.ring.specs.Class.{SameClass, Full, Even}
use Rattle.ring.specs.Expansion.{Expands, HasExpansion}
use Rattle.ring.specs.Trail.{Step, Trail}
use Rattle.ring.proofs.Elements.{mul_assoc, sub_zero}
use Rattle.ring.proofs.Norms.{size_is, size_pow}
use Rattle.ring.proofs.Expansions.{nil}
use Rattle.ring.proofs.Steps.{step_expands}
use Rattle.ring.proofs.Bound.{power, has_step}
use Rattle.ring.proofs.Classes.{mod_flip}
use Rattle.ring.proofs.Counting.{full_from_count}
use Rattle.worked.proofs.Tests.{every, every_is, all_below, each_below, eq_z, eq_z_is, eq_e, eq_e_is, eq_e_not, over, dvd, dvd_is, dvd_from, dvd_not}

-- ---- the rules of a system
abbrev pub rules : System → List Bool
rules s = le_z (negsuc 0) s.t ∷ le_z s.t (pos 1) ∷ le_z (pos 1) s.n ∷ le_z s.n (pos 2) ∷ eq_z (norm s s.β) (pos s.p) ∷ leb 2 s.p ∷ leb s.p 8 ∷ []

pub lawful_is : (s : System) → T (every (rules s)) → Lawful s
lawful_is s h =
    let q = every_is (rules s) h in
    record {
      t_low = le_z_yes q.0;
      t_high = le_z_yes q.1.0;
      n_low = le_z_yes q.1.1.0;
      n_high = le_z_yes q.1.1.1.0;
      p_is = eq_z_is (norm s s.β) (pos s.p) q.1.1.1.1.0;
      p_low = leb→le 2 s.p q.1.1.1.1.1.0;
      p_high = leb→le s.p 8 q.1.1.1.1.1.1.0;
    }

-- ---- the function
abbrev pub even? : System → Elem → Bool
even? s z = dvd s s.β s.p z

abbrev pub alike? : System → ℕ → Elem → Elem → Bool
alike? s v a b = dvd s (pow s s.β (suc v)) (s.p ^ suc v) (sub a b)

abbrev pub pick : System → ℕ → Elem → List Elem → Elem
pick s v z [] = 𝟘
pick s v z (d ∷ ds) = elim (alike? s v z d) [ true ↦ d | false ↦ pick s v z ds ]

abbrev pub digit : System → ℕ → List Elem → Elem → Elem
digit s v ds z = elim (even? s z) [ true ↦ 𝟘 | false ↦ pick s v z ds ]

abbrev pub next : System → ℕ → List Elem → Elem → Elem
next s v ds z = over s s.β s.p (sub z (digit s v ds z))

abbrev pub walk : System → ℕ → List Elem → Elem → ℕ → Elem
walk s v ds z zero = z
walk s v ds z (suc k) = next s v ds (walk s v ds z k)

-- ---- full sets
abbrev pub fullness : System → ℕ → List Elem → List Bool
fullness s v ds =
    all_below (length ds) (λ k. not (even? s (get_or ds k 𝟘))) ∷
    all_below (length ds) (λ j. all_below j (λ i. not (alike? s v (get_or ds i 𝟘) (get_or ds j 𝟘)))) ∷
    eqb (length ds) ((s.p - 1) * s.p ^ v) ∷ []

module _ (s : System) (g : Lawful s) (v : ℕ) (ds : List Elem) where
  even_not : (z : Elem) → T (not (even? s z)) → ¬ (Even s z)
  even_not z = dvd_not s s.β s.p (let h = g.p_low in omega arith) g.p_is z

  even_from : (z : Elem) → Even s z → T (even? s z)
  even_from z = dvd_from s s.β s.p (let h = g.p_low in omega arith) g.p_is z

  norm_pow : norm s (pow s s.β (suc v)) ≡ pos (s.p ^ suc v)
  norm_pow = size_is s g (pow s s.β (suc v)) ∙ ap pos (size_pow s g (suc v))

  some_pow : 1 ≤ s.p ^ suc v
  some_pow = let h = power s.p v g.p_low in omega arith

  pub full_is : T (every (fullness s v ds)) → Full s (suc v) (Has ds)
  full_is h = record { odd = odd; one = one; some = some }
    where
      q : AllByRecursion T (fullness s v ds)
      q = every_is (fullness s v ds) h

      odd_at : (k : ℕ) → k < length ds → ¬ (Even s (get_or ds k 𝟘))
      odd_at k l = even_not (get_or ds k 𝟘) (each_below (length ds) (λ k. not (even? s (get_or ds k 𝟘))) q.0 k l)

      apart : (i j : ℕ) → i < j → j < length ds → ¬ (SameClass s (suc v) (get_or ds i 𝟘) (get_or ds j 𝟘))
      apart i j l m = dvd_not s (pow s s.β (suc v)) (s.p ^ suc v) some_pow norm_pow (sub (get_or ds i 𝟘) (get_or ds j 𝟘))
          (each_below j (λ i. not (alike? s v (get_or ds i 𝟘) (get_or ds j 𝟘))) (each_below (length ds) (λ j. all_below j (λ i. not (alike? s v (get_or ds i 𝟘) (get_or ds j 𝟘)))) q.1.0 j m) i l)

      odd : (d : Elem) → Has ds d → ¬ (Even s d)
      odd d m = subst (λ u. ¬ (Even s u)) (m.2 𝟘) (odd_at m.0 m.1)

      by : (i j : ℕ) → i < length ds → j < length ds → SameClass s (suc v) (get_or ds i 𝟘) (get_or ds j 𝟘) → Dec (i < j) → Dec (j < i) → i ≡ j
      by i j l m a (yes k) o = absurd (apart i j k m a)
      by i j l m a (no k) (yes o) = absurd (apart j i o l (mod_flip s (pow s s.β (suc v)) (get_or ds i 𝟘) (get_or ds j 𝟘) a))
      by i j l m a (no k) (no o) = omega arith

      one : (d e : Elem) → Has ds d → Has ds e → SameClass s (suc v) d e → d ≡ e
      one d e m n a =
          sym (m.2 𝟘) ∙ ap (λ k. get_or ds k 𝟘) (by m.0 n.0 m.1 n.1 (subst (λ u. SameClass s (suc v) u (get_or ds n.0 𝟘)) (sym (m.2 𝟘)) (subst (SameClass s (suc v) d) (sym (n.2 𝟘)) a)) (dec_lt m.0 n.0) (dec_lt n.0 m.0)) ∙ n.2 𝟘

      some : (z : Elem) → ¬ (Even s z) → (d : Elem) × Has ds d × SameClass s (suc v) z d
      some z o =
          let r = full_from_count s g v (length ds) (λ k. get_or ds k 𝟘) odd_at apart (eqb→eq (length ds) ((s.p - 1) * s.p ^ v) q.1.1.0) z o in
          (get_or ds r.0 𝟘, has_get_or ds r.0 𝟘 r.1, r.2)

  -- ---- the function is the step
  pick_is : (z : Elem) (es : List Elem) (k : ℕ) → k < length es → T (alike? s v z (get_or es k 𝟘)) → (j : ℕ) × (j < length es) × (get_or es j 𝟘 ≡ pick s v z es) × T (alike? s v z (pick s v z es))
  pick_is z [] k l h = absurd (omega arith)
  pick_is z (d ∷ es) k l h = go (alike? s v z d) refl k l h (pick_is z es)
    where
      go : (b : Bool) → alike? s v z d ≡ b → (k : ℕ) → k < length (d ∷ es) → T (alike? s v z (get_or (d ∷ es) k 𝟘)) →
          ((k : ℕ) → k < length es → T (alike? s v z (get_or es k 𝟘)) → (j : ℕ) × (j < length es) × (get_or es j 𝟘 ≡ pick s v z es) × T (alike? s v z (pick s v z es))) →
          (j : ℕ) × (j < length (d ∷ es)) × (get_or (d ∷ es) j 𝟘 ≡ elim b [ true ↦ d | false ↦ pick s v z es ]) × T (alike? s v z (elim b [ true ↦ d | false ↦ pick s v z es ]))
      go true e k l h r = (0, omega arith, refl, subst T (sym e) tt)
      go false e zero l h r = absurd (subst T e h)
      go false e (suc k) l h r = let a = r k (omega arith) h in (suc a.0, (let m = a.1 in omega arith), a.2, a.3)

  module _ (full : Full s (suc v) (Has ds)) where
    pub step_is : (z : Elem) → Step s (suc v) (Has ds) z (digit s v ds z) (next s v ds z)
    step_is z = go (even? s z) refl
      where
        quotient : (d : Elem) → Even s (sub z d) → mul s s.β (over s s.β s.p (sub z d)) ≡ sub z d
        quotient d h = dvd_is s s.β s.p (sub z d) (even_from (sub z d) h)

        go : (b : Bool) → even? s z ≡ b → Step s (suc v) (Has ds) z (elim b [ true ↦ 𝟘 | false ↦ pick s v z ds ]) (over s s.β s.p (sub z (elim b [ true ↦ 𝟘 | false ↦ pick s v z ds ])))
        go true e =
            let d : Even s z = (over s s.β s.p z, dvd_is s s.β s.p z (subst T (sym e) tt)) in
            inl (d, refl, quotient 𝟘 (d.0, d.1 ∙ sym (sub_zero z)) ∙ sub_zero z)
        go false e =
            let o : ¬ (Even s z) = λ d. subst T e (even_from z d) in
            let m = full.some z o in
            let h = pick_is z ds m.1.0 m.1.1 (subst (λ u. T (alike? s v z u)) (sym (m.1.2 𝟘)) (dvd_from s (pow s s.β (suc v)) (s.p ^ suc v) some_pow norm_pow (sub z m.0) m.2)) in
            let d = pick s v z ds in
            let a : SameClass s (suc v) z d = (over s (pow s s.β (suc v)) (s.p ^ suc v) (sub z d), dvd_is s (pow s s.β (suc v)) (s.p ^ suc v) (sub z d) h.3) in
            inr (o, subst (Has ds) h.2 (has_get_or ds h.0 𝟘 h.1), a, quotient d (mul s (pow s s.β v) a.0, sym (mul_assoc s s.β (pow s s.β v) a.0) ∙ a.1))

    pub walk_is : (z : Elem) → Trail s (suc v) (Has ds) (walk s v ds z)
    walk_is z k = (digit s v ds (walk s v ds z k), step_is (walk s v ds z k))

-- ---- walks that end
abbrev pub ends : System → ℕ → List Elem → ℕ → Elem → Bool
ends s v ds zero z = eq_e z 𝟘
ends s v ds (suc n) z = elim (eq_e z 𝟘) [ true ↦ true | false ↦ ends s v ds n (next s v ds z) ]

abbrev pub shows : System → ℕ → List Elem → Elem → List Elem → Bool
shows s v ds z [] = eq_e z 𝟘
shows s v ds z (e ∷ es) = every (not (eq_e z 𝟘) ∷ eq_e (digit s v ds z) e ∷ shows s v ds (next s v ds z) es ∷ [])

module _ (s : System) (g : Lawful s) (v : ℕ) (ds : List Elem) (full : Full s (suc v) (Has ds)) where
  nothing : (z : Elem) → T (eq_e z 𝟘) → Expands s (suc v) (Has ds) z []
  nothing z h = subst (λ u. Expands s (suc v) (Has ds) u []) (sym (eq_e_is z 𝟘 h)) (nil s g (suc v) (Has ds))

  pub ends_is : (n : ℕ) (z : Elem) → T (ends s v ds n z) → HasExpansion s (suc v) (Has ds) z
  ends_is zero z h = ([], nothing z h)
  ends_is (suc n) z h = go (eq_e z 𝟘) refl h (ends_is n (next s v ds z))
    where
      go : (b : Bool) → eq_e z 𝟘 ≡ b → T (elim b [ true ↦ true | false ↦ ends s v ds n (next s v ds z) ]) → (T (ends s v ds n (next s v ds z)) → HasExpansion s (suc v) (Has ds) (next s v ds z)) → HasExpansion s (suc v) (Has ds) z
      go true e h r = ([], nothing z (subst T (sym e) tt))
      go false e h r = has_step s g v (Has ds) full.odd z (digit s v ds z) (next s v ds z) (step_is s g v ds full z) (r h)

  pub shows_is : (z : Elem) (es : List Elem) → T (shows s v ds z es) → Expands s (suc v) (Has ds) z es
  shows_is z [] h = nothing z h
  shows_is z (e ∷ es) h =
      let q = every_is (not (eq_e z 𝟘) ∷ eq_e (digit s v ds z) e ∷ shows s v ds (next s v ds z) es ∷ []) h in
      subst (λ u. Expands s (suc v) (Has ds) z (u ∷ es)) (eq_e_is (digit s v ds z) e q.1.0)
      (step_expands s g v (Has ds) full.odd z (digit s v ds z) (next s v ds z) es (step_is s g v ds full z) (shows_is (next s v ds z) es q.1.1.0) (eq_e_not z 𝟘 q.0))
