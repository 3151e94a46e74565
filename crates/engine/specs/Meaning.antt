-- What a point engine means: points with a sum on which θ acts. The carrier C is any type; the points are some of its values.
use Rattle.std.specs.Prelude.{◌≡◌, ℕ, zero, suc, Bool, T, ℤ, pos, negsuc}
use Rattle.ring.specs.Elem.{Elem}

pub record Meaning (C : Type 0) : Type 0 where
  pub t : ℤ
  pub n : ℤ
  pub start : C
  pub is_point : C → Bool
  pub sum : C → C → C
  pub θ : C → C
  pub origin : C
  pub opposite : C → C

-- k times the point p
unfoldable pub times_n : {C : Type 0} → Meaning C → ℕ → C → C
times_n m zero p = m.origin
times_n m (suc k) p = m.sum p (times_n m k p)

unfoldable pub times : {C : Type 0} → Meaning C → ℤ → C → C
times m (pos k) p = times_n m k p
times m (negsuc k) p = m.opposite (times_n m (suc k) p)

-- the element x + yθ
abbrev pub elem : ℤ → ℤ → Elem
elem x y = record { x = x; y = y }

-- the element a = x + yθ acting on p: x times p plus y times θ of p
unfoldable pub act : {C : Type 0} → Meaning C → Elem → C → C
act m a p = m.sum (times m a.x p) (times m a.y (m.θ p))

-- what an engine shows of its meaning
pub record LawfulMeaning {C : Type 0} (m : Meaning C) : Type 0 where
  pub start_point : T (m.is_point m.start)
  pub origin_point : T (m.is_point m.origin)
  pub sum_point : (p q : C) → T (m.is_point p) → T (m.is_point q) → T (m.is_point (m.sum p q))
  pub opposite_point : (p : C) → T (m.is_point p) → T (m.is_point (m.opposite p))
  pub θ_point : (p : C) → T (m.is_point p) → T (m.is_point (m.θ p))
  pub comm : (p q : C) → T (m.is_point p) → T (m.is_point q) → m.sum p q ≡ m.sum q p
  pub assoc : (p q r : C) → T (m.is_point p) → T (m.is_point q) → T (m.is_point r) → m.sum (m.sum p q) r ≡ m.sum p (m.sum q r)
  pub unit : (p : C) → T (m.is_point p) → m.sum p m.origin ≡ p
  pub cancels : (p : C) → T (m.is_point p) → m.sum p (m.opposite p) ≡ m.origin
  pub θ_sum : (p q : C) → T (m.is_point p) → T (m.is_point q) → m.θ (m.sum p q) ≡ m.sum (m.θ p) (m.θ q)
  pub square : (p : C) → T (m.is_point p) → m.sum (m.θ (m.θ p)) (times m m.n p) ≡ times m m.t (m.θ p)

-- engines of the type E, with points in the carrier C: what each means, its total and its current point
pub record Machine (E C : Type 0) : Type 0 where
  pub meaning : E → Meaning C
  pub total_of : E → C
  pub current_of : E → C
