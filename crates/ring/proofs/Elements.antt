-- The laws of sums, differences and products of elements.
use Rattle.std.proofs.Common.{◌≡◌, ℕ, List, [], ◌∷◌, ℤ, pos, ◌*ℤ◌, ap, ◌∙◌, arith}
use Rattle.ring.specs.Elem.{Elem, add, sub, 𝟘, 𝟙}
use Rattle.ring.specs.System.{System, mul, norm}
use Rattle.ring.proofs.Integers.{lin}
use Rattle.ring.proofs.Polynomials.{Ex, var, num, ◌⊕◌, ◌⊗◌, ◌⊖◌, solve}

-- elements with the same coordinates are the same
pub same : (a b : Elem) → a.x ≡ b.x → a.y ≡ b.y → a ≡ b
same a b p q = λ i. record { x = p i; y = q i }

-- ---- sums and differences: linear in each coordinate
pub add_comm : (a b : Elem) → add a b ≡ add b a
add_comm a b = same (add a b) (add b a) (omega (arith, lin)) (omega (arith, lin))

pub add_assoc : (a b c : Elem) → add (add a b) c ≡ add a (add b c)
add_assoc a b c = same (add (add a b) c) (add a (add b c)) (omega (arith, lin)) (omega (arith, lin))

pub add_zero : (a : Elem) → add 𝟘 a ≡ a
add_zero a = same (add 𝟘 a) a (omega (arith, lin)) (omega (arith, lin))

pub add_sub : (a b : Elem) → add (sub a b) b ≡ a
add_sub a b = same (add (sub a b) b) a (omega (arith, lin)) (omega (arith, lin))

pub sub_zero : (a : Elem) → sub a 𝟘 ≡ a
sub_zero a = same (sub a 𝟘) a (omega (arith, lin)) (omega (arith, lin))

pub sub_self : (a b : Elem) → sub a a ≡ sub b b
sub_self a b = same (sub a a) (sub b b) (omega (arith, lin)) (omega (arith, lin))

pub add_sub_left : (a b : Elem) → sub (add a b) a ≡ b
add_sub_left a b = same (sub (add a b) a) b (omega (arith, lin)) (omega (arith, lin))

pub sub_sub_self : (a b : Elem) → sub a (sub a b) ≡ b
sub_sub_self a b = same (sub a (sub a b)) b (omega (arith, lin)) (omega (arith, lin))

pub sub_sub : (a b c : Elem) → sub (sub a b) c ≡ sub a (add b c)
sub_sub a b c = same (sub (sub a b) c) (sub a (add b c)) (omega (arith, lin)) (omega (arith, lin))

pub sub_between : (a b c : Elem) → sub (sub a c) (sub a b) ≡ sub b c
sub_between a b c = same (sub (sub a c) (sub a b)) (sub b c) (omega (arith, lin)) (omega (arith, lin))

pub sub_chain : (a b c : Elem) → add (sub a b) (sub b c) ≡ sub a c
sub_chain a b c = same (add (sub a b) (sub b c)) (sub a c) (omega (arith, lin)) (omega (arith, lin))

pub sub_sums : (a b c d u : Elem) → u ≡ sub (add a b) (add c d) → sub u (sub b d) ≡ sub a c
sub_sums a b c d u h = let hx = ap (λ z. z.x) h in let hy = ap (λ z. z.y) h in same (sub u (sub b d)) (sub a c) (omega (arith, lin)) (omega (arith, lin))

pub sub_add_left : (a b c u : Elem) → u ≡ sub (add a b) (add a c) → u ≡ sub b c
sub_add_left a b c u h = let hx = ap (λ z. z.x) h in let hy = ap (λ z. z.y) h in same u (sub b c) (omega (arith, lin)) (omega (arith, lin))

pub sub_of_add : (a b c : Elem) → add a b ≡ c → b ≡ sub c a
sub_of_add a b c h = let hx = ap (λ z. z.x) h in let hy = ap (λ z. z.y) h in same b (sub c a) (omega (arith, lin)) (omega (arith, lin))

pub add_of_sub : (a b c : Elem) → b ≡ sub c a → add a b ≡ c
add_of_sub a b c h = let hx = ap (λ z. z.x) h in let hy = ap (λ z. z.y) h in same (add a b) c (omega (arith, lin)) (omega (arith, lin))

-- ---- the operations on expressions: an element is a pair of them; t is variable 0, n is variable 1
abbrev pub Pair : Type 0
Pair = Ex × Ex

abbrev pub mulx : Pair → Pair → Pair
mulx a b = (a.0 ⊗ b.0 ⊖ var 1 ⊗ (a.1 ⊗ b.1), a.0 ⊗ b.1 ⊕ a.1 ⊗ b.0 ⊕ var 0 ⊗ (a.1 ⊗ b.1))

abbrev pub addx : Pair → Pair → Pair
addx a b = (a.0 ⊕ b.0, a.1 ⊕ b.1)

abbrev pub subx : Pair → Pair → Pair
subx a b = (a.0 ⊖ b.0, a.1 ⊖ b.1)

abbrev pub normx : Pair → Ex
normx a = a.0 ⊗ a.0 ⊕ var 0 ⊗ (a.0 ⊗ a.1) ⊕ var 1 ⊗ (a.1 ⊗ a.1)

-- a whole number
abbrev pub # : ℕ → Ex
# k = num (pos k)

-- the first, second and third element of an environment
abbrev pub A : Pair
A = (var 2, var 3)

abbrev pub B : Pair
B = (var 4, var 5)

abbrev pub C : Pair
C = (var 6, var 7)

module _ (s : System) where
  abbrev pub env1 : Elem → List ℤ
  env1 a = s.t ∷ s.n ∷ a.x ∷ a.y ∷ []

  abbrev pub env2 : Elem → Elem → List ℤ
  env2 a b = s.t ∷ s.n ∷ a.x ∷ a.y ∷ b.x ∷ b.y ∷ []

  abbrev pub env3 : Elem → Elem → Elem → List ℤ
  env3 a b c = s.t ∷ s.n ∷ a.x ∷ a.y ∷ b.x ∷ b.y ∷ c.x ∷ c.y ∷ []

  -- ---- products
  pub mul_comm : (a b : Elem) → mul s a b ≡ mul s b a
  mul_comm a b = same (mul s a b) (mul s b a) (solve (env2 a b) (mulx A B).0 (mulx B A).0 tt) (solve (env2 a b) (mulx A B).1 (mulx B A).1 tt)

  pub mul_assoc : (a b c : Elem) → mul s (mul s a b) c ≡ mul s a (mul s b c)
  mul_assoc a b c = same (mul s (mul s a b) c) (mul s a (mul s b c))
      (solve (env3 a b c) (mulx (mulx A B) C).0 (mulx A (mulx B C)).0 tt)
      (solve (env3 a b c) (mulx (mulx A B) C).1 (mulx A (mulx B C)).1 tt)

  pub mul_one : (a : Elem) → mul s 𝟙 a ≡ a
  mul_one a = same (mul s 𝟙 a) a (solve (env1 a) (mulx (# 1, # 0) A).0 (var 2) tt) (solve (env1 a) (mulx (# 1, # 0) A).1 (var 3) tt)

  pub mul_zero : (a : Elem) → mul s a 𝟘 ≡ 𝟘
  mul_zero a = same (mul s a 𝟘) 𝟘 (solve (env1 a) (mulx A (# 0, # 0)).0 (# 0) tt) (solve (env1 a) (mulx A (# 0, # 0)).1 (# 0) tt)

  pub mul_add : (a b c : Elem) → mul s a (add b c) ≡ add (mul s a b) (mul s a c)
  mul_add a b c = same (mul s a (add b c)) (add (mul s a b) (mul s a c))
      (solve (env3 a b c) (mulx A (addx B C)).0 (addx (mulx A B) (mulx A C)).0 tt)
      (solve (env3 a b c) (mulx A (addx B C)).1 (addx (mulx A B) (mulx A C)).1 tt)

  pub mul_sub : (a b c : Elem) → mul s a (sub b c) ≡ sub (mul s a b) (mul s a c)
  mul_sub a b c = same (mul s a (sub b c)) (sub (mul s a b) (mul s a c))
      (solve (env3 a b c) (mulx A (subx B C)).0 (subx (mulx A B) (mulx A C)).0 tt)
      (solve (env3 a b c) (mulx A (subx B C)).1 (subx (mulx A B) (mulx A C)).1 tt)

  pub norm_mul : (a b : Elem) → norm s (mul s a b) ≡ norm s a *ℤ norm s b
  norm_mul a b = solve (env2 a b) (normx (mulx A B)) (normx A ⊗ normx B) tt

  -- e + b·c = b·a: b divides e
  pub sum_divides : (b a c e : Elem) → add e (mul s b c) ≡ mul s b a → mul s b (sub a c) ≡ e
  sum_divides b a c e h =
      let hx = ap (λ z. z.x) h in
      let hy = ap (λ z. z.y) h in
      mul_sub b a c ∙ same (sub (mul s b a) (mul s b c)) e (omega (arith, lin)) (omega (arith, lin))
