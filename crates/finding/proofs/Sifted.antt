-- Columns and rows that were sifted.
use Rattle.std.proofs.Common.{◌≡◌, ℕ, ◌+◌, ◌<◌, ◌≤◌, ℤ, pos, ◌+ℤ◌, neg_ℤ, nat_abs, ◌≤ℤ◌, ◌<ℤ◌, sym, subst, arith}
use Rattle.std.proofs.lemmas.Int.{ints, by_lt_z}
use Rattle.ring.specs.Elem.{Elem}
use Rattle.ring.specs.System.{System, Lawful, size}
use Rattle.ring.proofs.Elements.{same}
use Rattle.rounds.specs.Rounds.{Falls}
use Rattle.finding.specs.Finding.{point, Bounds, Column, Shell}
use Rattle.finding.proofs.Sink.{inside}

-- each element left of x, of a norm from `from` below `least`, falls
abbrev pub Left : (Elem → Elem) → System → ℕ → ℕ → ℤ → Type 0
Left next s from least x = (z : Elem) → z.x <ℤ x → from ≤ size s z → size s z < least → Falls next s z

-- and each in column x below y, from −c
abbrev pub Under : (Elem → Elem) → System → ℕ → ℕ → ℤ → ℤ → ℤ → Type 0
Under next s from least c x y = (z : Elem) → z.x ≡ x → nat_abs z.y ≤ nat_abs c → z.y <ℤ y → from ≤ size s z → size s z < least → Falls next s z

module _ (next : Elem → Elem) (s : System) (from : ℕ) where
  pub under_more : (least least' : ℕ) (c x y y' : ℤ) → least' ≤ least → y' ≡ y +ℤ pos 1 → Under next s from least c x y →
      (from ≤ size s (point x y) → size s (point x y) < least' → Falls next s (point x y)) → Under next s from least' c x y'
  under_more least least' c x y y' h e k here z m i l a b =
      by_lt_z z.y y (λ lt. k z m i lt a (omega arith))
      (λ ge. let q : z ≡ point x y = same z (point x y) m (omega (arith, ints)) in
      subst (Falls next s) (sym q) (here (subst (λ u. from ≤ size s u) q a) (subst (λ u. size s u < least') q b)))

  pub under_all : (least : ℕ) (c x y : ℤ) → pos 0 ≤ℤ c → c <ℤ y → Under next s from least c x y → Column next s from least c x
  under_all least c x y o past k z m i a b = k z m i (omega (arith, ints)) a b

-- what lies outside the box is of larger norm
module _ (next : Elem → Elem) (s : System) (g : Lawful s) (from top : ℕ) (c : ℤ) (o : pos 0 ≤ℤ c) (bounds : Bounds top c) where
  pub left_none : (least : ℕ) (low : ℤ) → least ≤ top + 1 → low ≡ neg_ℤ c → Left next s from least low
  left_none least low le e z l a b = let i = inside s g top c bounds z (omega arith) in absurd (omega (arith, ints, i.0))

  pub left_more : (least least' : ℕ) (x x' : ℤ) → least ≤ top + 1 → least' ≤ least → x' ≡ x +ℤ pos 1 → Left next s from least x → Column next s from least' c x → Left next s from least' x'
  left_more least least' x x' le h e k column z l a b =
      by_lt_z z.x x (λ lt. k z lt a (omega arith))
      (λ ge. let i = inside s g top c bounds z (omega arith) in column z (omega (arith, ints)) i.1 a b)

  pub left_all : (least : ℕ) (x : ℤ) → least ≤ top + 1 → c <ℤ x → Left next s from least x → Shell next s from least
  left_all least x le past k z a b = let i = inside s g top c bounds z (omega arith) in k z (omega (arith, ints, i.0)) a b
