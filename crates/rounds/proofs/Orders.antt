-- The order by natural numbers is ring's; and the box that the elements of small norm stand in.
use Rattle.std.proofs.Common.{◌≡◌, ◌≢◌, ℕ, ◌<◌, ◌≤◌, ℤ, pos, nat_abs, ◌<ℤ◌, true, false, ◌&&◌, int_eq, sym, ap, ◌∙◌, subst₂, inl, inr, ⊎_elim, arith, rules}
use lib.Signed.{<ℤ_irrefl}
use Rattle.std.proofs.lemmas.Int.{ints}
use Rattle.ring.specs.Elem.{Elem, Below}
use Rattle.ring.specs.System.{System, Lawful, size}
use Rattle.ring.specs.Verdict.{Before}
use Rattle.ring.proofs.Norms.{size_is}
use Rattle.ring.proofs.Boxes.{In, in_box}
use Rattle.numbers.specs.Meaning.{short}
use Rattle.numbers.specs.declared.elements.Element.{Element}
use Rattle.rounds.specs.Order.{Ordered}

below_in : (m n : ℕ) → m < n → pos m <ℤ pos n
below_in m n h = omega (arith, ints)

below_out : (m n : ℕ) → pos m <ℤ pos n → m < n
below_out m n h = omega (arith, ints)

module _ (s : System) (g : Lawful s) (a b : Elem) where
  pub to_before : Ordered (size s a) a (size s b) b → Before s a b
  to_before = ⊎_elim (λ l. inl (subst₂ (λ m n. m <ℤ n) (sym (size_is s g a)) (sym (size_is s g b)) (below_in (size s a) (size s b) l))) (λ r. inr (size_is s g a ∙ ap pos r.0 ∙ sym (size_is s g b), r.1))

  pub of_before : Before s a b → Ordered (size s a) a (size s b) b
  of_before = ⊎_elim (λ l. inl (below_out (size s a) (size s b) (subst₂ (λ m n. m <ℤ n) (size_is s g a) (size_is s g b) l))) (λ r. inr (ap nat_abs (sym (size_is s g a) ∙ r.0 ∙ size_is s g b), r.1))

-- nothing stands before itself
pub not_before : (s : System) (a : Elem) → ¬ (Before s a a)
not_before s a h = ⊎_elim (λ l. <ℤ_irrefl l) (λ r. ⊎_elim (λ l. <ℤ_irrefl l) (λ q. <ℤ_irrefl q.1) r.1) h

-- ---- elements of norm at most 1600000 stand in the box of 1460
abbrev pub side : ℕ
side = 1460

module _ (s : System) (g : Lawful s) (M : ℕ) (small : M ≤ 1600000) where
  pub boxed : (a : Elem) → size s a ≤ M → In side a
  boxed a h = in_box s g 1600000 side (omega arith) a (omega arith)

  pub near : (a : Elem) → size s a ≤ M → Below 2048 a
  near a h = let b = boxed a h in record { in_x = omega (arith, b.0); in_y = omega (arith, b.1) }

-- ---- what `==` tells of two elements
pub apart : (a b : Element ℤ) → false ≡ (int_eq a.x b.x && int_eq a.y b.y) → short a ≢ short b
apart a b h e = search rules

pub together : (a b : Element ℤ) → true ≡ (int_eq a.x b.x && int_eq a.y b.y) → short a ≡ short b
together a b h = search rules
