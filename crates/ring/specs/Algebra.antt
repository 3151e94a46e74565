-- The laws of the ring and of the norm, for every t and n, and what lawful systems add.
use Rattle.std.specs.Prelude.{◌≡◌, ◌≢◌, pos, ◌*ℤ◌, ◌≤ℤ◌}
use Rattle.ring.specs.Elem.{Elem, add, sub, 𝟘, 𝟙}
use Rattle.ring.specs.System.{System, Lawful, mul, norm}

-- commutative, associative, distributive, with 0 and 1 and differences; and the norm of a product is the product of the norms
abbrev pub RingLaws : Type 0
RingLaws = (s : System) (a b c : Elem) → record {
  add_comm : add a b ≡ add b a;
  add_assoc : add (add a b) c ≡ add a (add b c);
  add_zero : add 𝟘 a ≡ a;
  add_sub : add (sub a b) b ≡ a;
  mul_comm : mul s a b ≡ mul s b a;
  mul_assoc : mul s (mul s a b) c ≡ mul s a (mul s b c);
  mul_one : mul s 𝟙 a ≡ a;
  mul_add : mul s a (add b c) ≡ add (mul s a b) (mul s a c);
  norm_mul : norm s (mul s a b) ≡ norm s a *ℤ norm s b;
}

-- in a lawful system the norm is 0 at 0 and positive elsewhere, and bounds both coordinates
abbrev pub NormLaws : Type 0
NormLaws = (s : System) → Lawful s → (a : Elem) → record {
  at_zero : norm s 𝟘 ≡ pos 0;
  positive : a ≢ 𝟘 → pos 1 ≤ℤ norm s a;
  x_bound : (pos 3 *ℤ (a.x *ℤ a.x)) ≤ℤ (pos 4 *ℤ norm s a);
  y_bound : (pos 3 *ℤ (a.y *ℤ a.y)) ≤ℤ (pos 4 *ℤ norm s a);
}

-- multiplication by the base cancels
abbrev pub BaseCancels : Type 0
BaseCancels = (s : System) → Lawful s → (a b : Elem) → mul s s.β a ≡ mul s s.β b → a ≡ b
