-- Identities of polynomials over ℤ, by computing: `solve ρ e f tt` proves that the expressions e and f have one weighted where the variables have the values ρ.
use Rattle.std.proofs.Common.{◌≡◌, ℕ, zero, suc, ◌+◌, Bool, true, false, T, eqb, List, [], ◌∷◌, ℤ, pos, negsuc, ◌+ℤ◌, ◌*ℤ◌, neg_ℤ, sym, refl, ap, ◌∙◌, subst, ap₂, add-zero, add-suc, arith, eqb→eq}
use lib.IntN.{*ℤ_comm, zero-*ℤ, *ℤ-zero, +ℤ_idl, +ℤ_idr}
use borrow.Author.Differences.{ints}
use Rattle.ring.proofs.Integers.{lin, mul_assoc, mul_add, add_mul, neg_mul}

infixl 6 ◌⊕◌ ◌⊖◌
infixl 7 ◌⊗◌
infixl 8 ⊝◌
pub data Ex : Type 0 where
  var : ℕ → Ex
  num : ℤ → Ex
  ◌⊕◌ : Ex → Ex → Ex
  ◌⊗◌ : Ex → Ex → Ex
  ⊝◌ : Ex → Ex

abbrev pub ◌⊖◌ : Ex → Ex → Ex
e ⊖ f = e ⊕ (⊝ f)

-- the values of the variables; past the end, 1
abbrev pub at : List ℤ → ℕ → ℤ
at [] i = pos 1
at (x ∷ ρ) zero = x
at (x ∷ ρ) (suc i) = at ρ i

abbrev pub val : List ℤ → Ex → ℤ
val ρ (var i) = at ρ i
val ρ (num z) = z
val ρ (e ⊕ f) = val ρ e +ℤ val ρ f
val ρ (e ⊗ f) = val ρ e *ℤ val ρ f
val ρ (⊝ e) = neg_ℤ (val ρ e)

-- a monomial is the list of the exponents
abbrev pw : ℤ → ℕ → ℤ
pw x zero = pos 1
pw x (suc k) = x *ℤ pw x k

abbrev mval : List ℤ → List ℕ → ℤ
mval ρ [] = pos 1
mval [] (k ∷ m) = pos 1
mval (x ∷ ρ) (k ∷ m) = pw x k *ℤ mval ρ m

abbrev mmul : List ℕ → List ℕ → List ℕ
mmul [] k = k
mmul (a ∷ m) [] = a ∷ m
mmul (a ∷ m) (b ∷ k) = (a + b) ∷ mmul m k

abbrev meq : List ℕ → List ℕ → Bool
meq [] [] = true
meq [] (b ∷ k) = false
meq (a ∷ m) [] = false
meq (a ∷ m) (b ∷ k) = elim (eqb a b) [ true ↦ meq m k | false ↦ false ]

abbrev unit : ℕ → List ℕ
unit zero = 1 ∷ []
unit (suc i) = 0 ∷ unit i

pub data Poly : Type 0 where
  nil : Poly
  term : ℤ → List ℕ → Poly → Poly

abbrev pval : List ℤ → Poly → ℤ
pval ρ nil = pos 0
pval ρ (term c m p) = c *ℤ mval ρ m +ℤ pval ρ p

abbrev ins : ℤ → List ℕ → Poly → Poly
ins c m nil = term c m nil
ins c m (term d k p) = elim (meq m k) [ true ↦ term (c +ℤ d) k p | false ↦ term d k (ins c m p) ]

abbrev padd : Poly → Poly → Poly
padd nil q = q
padd (term c m p) q = ins c m (padd p q)

abbrev pscale : ℤ → List ℕ → Poly → Poly
pscale c m nil = nil
pscale c m (term d k q) = term (c *ℤ d) (mmul m k) (pscale c m q)

abbrev pmul : Poly → Poly → Poly
pmul nil q = nil
pmul (term c m p) q = padd (pscale c m q) (pmul p q)

abbrev norm : Ex → Poly
norm (var i) = term (pos 1) (unit i) nil
norm (num z) = term z [] nil
norm (e ⊕ f) = padd (norm e) (norm f)
norm (e ⊗ f) = pmul (norm e) (norm f)
norm (⊝ e) = pscale (negsuc 0) [] (norm e)

abbrev zero_z : ℤ → Bool
zero_z (pos n) = eqb n 0
zero_z (negsuc n) = false

abbrev zeros : Poly → Bool
zeros nil = true
zeros (term c m p) = elim (zero_z c) [ true ↦ zeros p | false ↦ false ]

-- ---- soundness
one_mul : (a : ℤ) → pos 1 *ℤ a ≡ a
one_mul a = omega (arith, ints)

mul_one : (a : ℤ) → a *ℤ pos 1 ≡ a
mul_one a = *ℤ_comm a (pos 1) ∙ one_mul a

swap4 : (a b c d : ℤ) → (a *ℤ b) *ℤ (c *ℤ d) ≡ (a *ℤ c) *ℤ (b *ℤ d)
swap4 a b c d = mul_assoc a b (c *ℤ d) ∙ ap (λ x. a *ℤ x) (sym (mul_assoc b c d) ∙ ap (λ x. x *ℤ d) (*ℤ_comm b c) ∙ mul_assoc c b d) ∙ sym (mul_assoc a c (b *ℤ d))

swap3 : (a b c : ℤ) → a *ℤ (b *ℤ c) ≡ b *ℤ (a *ℤ c)
swap3 a b c = sym (mul_assoc a b c) ∙ ap (λ x. x *ℤ c) (*ℤ_comm a b) ∙ mul_assoc b a c

pw_add : (x : ℤ) (a b : ℕ) → pw x (a + b) ≡ pw x a *ℤ pw x b
pw_add x a zero = rw add-zero (sym (mul_one (pw x a)))
pw_add x a (suc b) = rw add-suc (ap (λ y. x *ℤ y) (pw_add x a b) ∙ swap3 x (pw x a) (pw x b))

mmul_is : (ρ : List ℤ) (m k : List ℕ) → mval ρ (mmul m k) ≡ mval ρ m *ℤ mval ρ k
mmul_is ρ [] k = sym (one_mul (mval ρ k))
mmul_is ρ (a ∷ m) [] = sym (mul_one (mval ρ (a ∷ m)))
mmul_is [] (a ∷ m) (b ∷ k) = refl
mmul_is (x ∷ ρ) (a ∷ m) (b ∷ k) = ap₂ ◌*ℤ◌ (pw_add x a b) (mmul_is ρ m k) ∙ swap4 (pw x a) (pw x b) (mval ρ m) (mval ρ k)

meq_is : (m k : List ℕ) → T (meq m k) → m ≡ k
meq_is [] [] t = refl
meq_is [] (b ∷ k) t = absurd t
meq_is (a ∷ m) [] t = absurd t
meq_is (a ∷ m) (b ∷ k) t = go (eqb a b) refl (meq_is m k) t
  where
    go : (q : Bool) → eqb a b ≡ q → (T (meq m k) → m ≡ k) → T (elim q [ true ↦ meq m k | false ↦ false ]) → a ∷ m ≡ b ∷ k
    go true e r h = ap₂ ◌∷◌ (eqb→eq a b (subst T (sym e) tt)) (r h)
    go false e r h = absurd h

unit_is : (ρ : List ℤ) (i : ℕ) → mval ρ (unit i) ≡ at ρ i
unit_is [] zero = refl
unit_is [] (suc i) = refl
unit_is (x ∷ ρ) zero = mul_one (x *ℤ pos 1) ∙ mul_one x
unit_is (x ∷ ρ) (suc i) = one_mul (mval ρ (unit i)) ∙ unit_is ρ i

ins_is : (ρ : List ℤ) (c : ℤ) (m : List ℕ) (p : Poly) → pval ρ (ins c m p) ≡ c *ℤ mval ρ m +ℤ pval ρ p
ins_is ρ c m nil = refl
ins_is ρ c m (term d k p) = go (meq m k) refl (ins_is ρ c m p)
  where
    go : (q : Bool) → meq m k ≡ q → pval ρ (ins c m p) ≡ c *ℤ mval ρ m +ℤ pval ρ p →
        pval ρ (elim q [ true ↦ term (c +ℤ d) k p | false ↦ term d k (ins c m p) ]) ≡ c *ℤ mval ρ m +ℤ (d *ℤ mval ρ k +ℤ pval ρ p)
    go true e h = let s = ap (λ j. c *ℤ mval ρ j) (meq_is m k (subst T (sym e) tt)) in let u = add_mul c d (mval ρ k) in omega (arith, lin)
    go false e h = omega (arith, lin)

padd_is : (ρ : List ℤ) (p q : Poly) → pval ρ (padd p q) ≡ pval ρ p +ℤ pval ρ q
padd_is ρ nil q = sym (+ℤ_idl (pval ρ q))
padd_is ρ (term c m p) q = let h = ins_is ρ c m (padd p q) in let k = padd_is ρ p q in omega (arith, lin)

pscale_is : (ρ : List ℤ) (c : ℤ) (m : List ℕ) (q : Poly) → pval ρ (pscale c m q) ≡ (c *ℤ mval ρ m) *ℤ pval ρ q
pscale_is ρ c m nil = sym (*ℤ-zero (c *ℤ mval ρ m))
pscale_is ρ c m (term d k q) =
    let h = pscale_is ρ c m q in
    let e = ap (λ x. (c *ℤ d) *ℤ x) (mmul_is ρ m k) ∙ swap4 c d (mval ρ m) (mval ρ k) in
    let u = mul_add (c *ℤ mval ρ m) (d *ℤ mval ρ k) (pval ρ q) in
    omega (arith, lin)

pmul_is : (ρ : List ℤ) (p q : Poly) → pval ρ (pmul p q) ≡ pval ρ p *ℤ pval ρ q
pmul_is ρ nil q = sym (zero-*ℤ (pval ρ q))
pmul_is ρ (term c m p) q =
    let h = padd_is ρ (pscale c m q) (pmul p q) in
    let k = pscale_is ρ c m q in
    let j = pmul_is ρ p q in
    let u = add_mul (c *ℤ mval ρ m) (pval ρ p) (pval ρ q) in
    omega (arith, lin)

norm_is : (ρ : List ℤ) (e : Ex) → pval ρ (norm e) ≡ val ρ e
norm_is ρ (var i) = +ℤ_idr (pos 1 *ℤ mval ρ (unit i)) ∙ one_mul (mval ρ (unit i)) ∙ unit_is ρ i
norm_is ρ (num z) = +ℤ_idr (z *ℤ pos 1) ∙ mul_one z
norm_is ρ (e ⊕ f) = padd_is ρ (norm e) (norm f) ∙ ap₂ ◌+ℤ◌ (norm_is ρ e) (norm_is ρ f)
norm_is ρ (e ⊗ f) = pmul_is ρ (norm e) (norm f) ∙ ap₂ ◌*ℤ◌ (norm_is ρ e) (norm_is ρ f)
norm_is ρ (⊝ e) = pscale_is ρ (negsuc 0) [] (norm e) ∙ ap (λ x. negsuc 0 *ℤ x) (norm_is ρ e) ∙ neg_mul (pos 1) (val ρ e) ∙ ap neg_ℤ (one_mul (val ρ e))

zero_z_is : (c : ℤ) → T (zero_z c) → c ≡ pos 0
zero_z_is (pos n) t = ap pos (eqb→eq n 0 t)
zero_z_is (negsuc n) t = absurd t

zeros_is : (ρ : List ℤ) (p : Poly) → T (zeros p) → pval ρ p ≡ pos 0
zeros_is ρ nil t = refl
zeros_is ρ (term c m p) t = go (zero_z c) refl (zeros_is ρ p) t
  where
    go : (q : Bool) → zero_z c ≡ q → (T (zeros p) → pval ρ p ≡ pos 0) → T (elim q [ true ↦ zeros p | false ↦ false ]) → c *ℤ mval ρ m +ℤ pval ρ p ≡ pos 0
    go true e r h = ap₂ (λ x y. x *ℤ mval ρ m +ℤ y) (zero_z_is c (subst T (sym e) tt)) (r h) ∙ +ℤ_idr (pos 0 *ℤ mval ρ m) ∙ zero-*ℤ (mval ρ m)
    go false e r h = absurd h

pub solve : (ρ : List ℤ) (e f : Ex) → T (zeros (norm (e ⊖ f))) → val ρ e ≡ val ρ f
solve ρ e f t = let h = sym (norm_is ρ (e ⊖ f)) ∙ zeros_is ρ (norm (e ⊖ f)) t in omega (arith, lin)
