-- Elements that fall come to 0.
use Rattle.std.proofs.Common.{◌≡◌, ℕ, zero, suc, ◌+◌, ◌*◌, ◌<◌, ◌≤◌, ◌⊎◌, ℤ, pos, negsuc, nat_abs, ◌<ℤ◌, sym, refl, ap, ◌∙◌, inl, inr, ⊎_elim, arith}
use native.Mathlib.Decide.{dec_lt}
use Rattle.std.proofs.lemmas.Int.{ints}
use Rattle.ring.specs.Elem.{Elem}
use Rattle.ring.specs.System.{System, Lawful, size}
use Rattle.ring.specs.Verdict.{Before}
use Rattle.ring.proofs.Boxes.{In, off, code, code_high, in_box}
use Rattle.rounds.specs.Rounds.{after}
use Rattle.rounds.proofs.Orders.{side, boxed, of_before}
use Rattle.rounds.proofs.Trails.{from_there}
use Rattle.finding.specs.Finding.{Ends, Bounds, Shell, Inner}

pub ends_from : (next : Elem → Elem) (z : Elem) (k : ℕ) → Ends next (after next k z) → Ends next z
ends_from next z k h = (k + h.0, sym (from_there next z k h.0 _ refl) ∙ h.1)

pub inside : (s : System) → Lawful s → (top : ℕ) (c : ℤ) → Bounds top c → (z : Elem) → size s z ≤ top → In (nat_abs c) z
inside s g top c h z l = in_box s g top (nat_abs c) h z l

-- ---- the order of the search, as one number
abbrev places : ℕ
places = (2 * side + 1) * (2 * side + 1)

abbrev rank : System → Elem → ℕ
rank s z = size s z * places + code side z

off_less : (a b : ℤ) → nat_abs a ≤ side → nat_abs b ≤ side → a <ℤ b → off side a < off side b
off_less (pos m) (pos n) h k l = omega (arith, ints)
off_less (pos m) (negsuc n) h k l = absurd (omega (arith, ints))
off_less (negsuc m) (pos n) h k l = omega arith
off_less (negsuc m) (negsuc n) h k l = omega (arith, ints)

off_high : (a : ℤ) → nat_abs a ≤ side → off side a < 2 * side + 1
off_high (pos n) h = omega arith
off_high (negsuc n) h = omega arith

code_less : (a b : Elem) → In side a → In side b → (a.x <ℤ b.x) ⊎ ((a.x ≡ b.x) × (a.y <ℤ b.y)) → code side a < code side b
code_less a b h k (inl l) = let o = off_less a.x b.x h.0 k.0 l in let p = off_high a.y h.1 in omega arith
code_less a b h k (inr (e, l)) = let o = off_less a.y b.y h.1 k.1 l in let p = ap (off side) e in omega arith

module _ (s : System) (g : Lawful s) (M : ℕ) (small : M ≤ 1600000) where
  earlier_rank : (a b : Elem) → size s a ≤ M → size s b ≤ M → Before s a b → rank s a < rank s b
  earlier_rank a b p q h =
      let ba = boxed s g M small a p in
      let bb = boxed s g M small b q in
      ⊎_elim (λ l. by (size s a) (size s b) (code side a) (code side b) l (code_high side a ba)) (λ r. let e = ap (λ k. k * places) r.0 in let l = code_less a b ba bb r.1 in omega (arith, e, l)) (of_before s g a b h)
    where
      by : (m n i j : ℕ) → m < n → i < places → m * places + i < n * places + j
      by m n i j l h = omega arith

  not_larger : (a b : Elem) → Before s a b → size s a ≤ size s b
  not_larger a b h = ⊎_elim (λ l. omega arith) (λ r. omega (arith, r.0)) (of_before s g a b h)

  pub sunk : (next : Elem → Elem) (from r : ℕ) → r ≤ M + 1 → Inner next s from → Shell next s from r → Inner next s r
  sunk next from r le ends falls z h = go (suc (rank s z)) z h (omega arith)
    where
      by : (n : ℕ) → ((a : Elem) → size s a < r → rank s a < n → Ends next a) → (z : Elem) → size s z < r → rank s z < suc n → Dec (size s z < from) → Ends next z
      by n ih z h l (yes k) = ends z k
      by n ih z h l (no k) =
          let f = falls z (omega arith) h in
          let a = after next f.0 z in
          let m : size s a ≤ size s z = not_larger a z f.1 in
          let q : rank s a < rank s z = earlier_rank a z (omega arith) (omega arith) f.1 in
          ends_from next z f.0 (ih a (omega arith) (omega arith))

      go : (n : ℕ) (z : Elem) → size s z < r → rank s z < n → Ends next z
      go zero z h l = absurd (omega arith)
      go (suc n) z h l = by n (go n) z h l (dec_lt (size s z) from)
