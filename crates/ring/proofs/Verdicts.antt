-- Elements stand in one order, so a full set has one verdict only.
use Rattle.std.proofs.Common.{◌≡◌, ℕ, suc, ◌<◌, ◌⊎◌, ℤ, pos, negsuc, ◌<ℤ◌, sym, refl, ap, ◌∙◌, subst, inl, inr, arith, lt→ltb}
use mathlib.Core.Path.{fun_ext}
use native.Mathlib.Decide.{dec_lt}
use Rattle.ring.specs.Elem.{Elem}
use Rattle.ring.specs.System.{System, Lawful, norm}
use Rattle.ring.specs.Class.{Full}
use Rattle.ring.specs.Trail.{LeadPeriod}
use Rattle.ring.specs.Verdict.{Verdict, cleared, barred, Before, Holds}
use Rattle.ring.proofs.Elements.{same}
use Rattle.ring.proofs.Trails.{same_trail}
use Rattle.ring.proofs.Rounds.{one_lead}

compare : (a b : ℤ) → (a <ℤ b) ⊎ ((a ≡ b) ⊎ (b <ℤ a))
compare (pos a) (pos b) = by (dec_lt a b) (dec_lt b a)
  where
    by : Dec (a < b) → Dec (b < a) → (pos a <ℤ pos b) ⊎ ((pos a ≡ pos b) ⊎ (pos b <ℤ pos a))
    by (yes h) d = inl (record { lt = lt→ltb a b h })
    by (no h) (yes k) = inr (inr (record { lt = lt→ltb b a k }))
    by (no h) (no k) = inr (inl (ap pos (omega arith)))
compare (pos a) (negsuc b) = inr (inr (record { lt = tt }))
compare (negsuc a) (pos b) = inl (record { lt = tt })
compare (negsuc a) (negsuc b) = by (dec_lt a b) (dec_lt b a)
  where
    by : Dec (a < b) → Dec (b < a) → (negsuc a <ℤ negsuc b) ⊎ ((negsuc a ≡ negsuc b) ⊎ (negsuc b <ℤ negsuc a))
    by (yes h) d = inr (inr (record { lt = lt→ltb a b h }))
    by (no h) (yes k) = inl (record { lt = lt→ltb b a k })
    by (no h) (no k) = inr (inl (ap negsuc (omega arith)))

pub order : (s : System) (a b : Elem) → Before s a b ⊎ ((a ≡ b) ⊎ Before s b a)
order s a b = by (compare (norm s a) (norm s b)) (compare a.x b.x) (compare a.y b.y)
  where
    by : (norm s a <ℤ norm s b) ⊎ ((norm s a ≡ norm s b) ⊎ (norm s b <ℤ norm s a)) → (a.x <ℤ b.x) ⊎ ((a.x ≡ b.x) ⊎ (b.x <ℤ a.x)) → (a.y <ℤ b.y) ⊎ ((a.y ≡ b.y) ⊎ (b.y <ℤ a.y)) →
        Before s a b ⊎ ((a ≡ b) ⊎ Before s b a)
    by (inl h) p q = inl (inl h)
    by (inr (inr h)) p q = inr (inr (inl h))
    by (inr (inl h)) (inl k) q = inl (inr (h, inl k))
    by (inr (inl h)) (inr (inr k)) q = inr (inr (inr (sym h, inl k)))
    by (inr (inl h)) (inr (inl k)) (inl l) = inl (inr (h, inr (k, l)))
    by (inr (inl h)) (inr (inl k)) (inr (inr l)) = inr (inr (inr (sym h, inr (sym k, l))))
    by (inr (inl h)) (inr (inl k)) (inr (inl l)) = inr (inl (same a b k l))

module _ (s : System) (g : Lawful s) (v : ℕ) (S : Elem → Type 0) (full : Full s (suc v) S) where
  pub one_verdict : (c d : Verdict) → Holds s (suc v) S c → Holds s (suc v) S d → c ≡ d
  one_verdict cleared cleared h k = refl
  one_verdict cleared (barred b l p) h k = absurd (k.none (h b))
  one_verdict (barred a l p) cleared h k = absurd (h.none (k a))
  one_verdict (barred a l p) (barred b m q) h k = λ i. barred (first i) (both.0 i) (both.1 i)
    where
      by : Before s a b ⊎ ((a ≡ b) ⊎ Before s b a) → a ≡ b
      by (inl u) = absurd (h.none (k.earlier a u))
      by (inr (inl e)) = e
      by (inr (inr u)) = absurd (k.none (h.earlier b u))

      first : a ≡ b
      first = by (order s a b)

      both : (l ≡ m) × (p ≡ q)
      both =
          let t = h.trail in
          let u = k.trail in
          let e = fun_ext (same_trail s g v S full u.0 t.0 u.1 t.1 (u.2 ∙ sym first ∙ sym t.2)) in
          one_lead t.0 l p m q t.3 (subst (λ f. LeadPeriod f m q) e u.3)
