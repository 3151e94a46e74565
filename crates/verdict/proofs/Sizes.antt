-- Norms as numbers of the machine, and the bound of the search.
use Rattle.std.proofs.Common.{◌≡◌, ℕ, ◌+◌, ◌*◌, ◌/◌, ◌^◌, ◌<◌, ◌≤◌, T, List, length, get_or, ℤ, pos, nat_abs, sym, ap, ◌∙◌, subst, ⊎_elim, le-div_iff_mul-le, div-le_self, arith, w32, w64, Fits, SFits, to_z, of_z}
use lib.Signed.{non_neg}
use Rattle.std.proofs.lemmas.Int.{ints, to_z-of_z}
use Rattle.ring.specs.Elem.{Elem, Below, 𝟘}
use Rattle.ring.specs.System.{System, Lawful, size}
use Rattle.ring.proofs.Magnitudes.{size_high}
use Rattle.ring.proofs.Pigeonhole.{below}
use Rattle.verdict.specs.Bounds.{Most}

module _ (s : System) (g : Lawful s) where
  pub norm_small : (z : Elem) → Below 2048 z → size s z ≤ 2 ^ 24
  norm_small z h = let k = size_high s g 2048 z (omega (arith, h.in_x)) (omega (arith, h.in_y)) in omega arith

pub cast_fits : (r : ℤ) (n : ℕ) → r ≡ pos n → n ≤ 2 ^ 24 → T (non_neg (to_z w64 (of_z w64 r))) × Fits w32 (nat_abs (to_z w64 (of_z w64 r)))
cast_fits r n e h =
    let f : SFits w64 (pos n) = omega (arith, ints) in
    let q : to_z w64 (of_z w64 r) ≡ pos n = ap (λ z. to_z w64 (of_z w64 z)) e ∙ to_z-of_z w64 (pos n) f in
    subst (λ z. T (non_neg z) × Fits w32 (nat_abs z)) (sym q) (tt, record { fits = omega arith })

pub cast_is : (r : ℤ) (n : ℕ) → r ≡ pos n → n ≤ 2 ^ 24 → nat_abs (to_z w64 (of_z w64 r)) ≡ n
cast_is r n e h =
    let f : SFits w64 (pos n) = omega (arith, ints) in
    ap nat_abs (ap (λ z. to_z w64 (of_z w64 z)) e ∙ to_z-of_z w64 (pos n) f)

-- ---- the first k elements of a list have norms at most m
abbrev pub Upto : System → ℕ → List Elem → ℕ → Type 0
Upto s m ds k = (j : ℕ) → j < k → size s (get_or ds j 𝟘) ≤ m

pub upto_more : (s : System) (m n : ℕ) (ds : List Elem) (k : ℕ) (e : Elem) → m ≤ n → get_or ds k 𝟘 ≡ e → size s e ≤ n → Upto s m ds k → Upto s n ds (k + 1)
upto_more s m n ds k e l q h u j o = ⊎_elim (λ i. let a = u j i in omega arith) (λ i. subst (λ i. size s (get_or ds i 𝟘) ≤ n) (sym i) (subst (λ d. size s d ≤ n) (sym q) h)) (below j k (omega arith))

pub all_upto : (s : System) (m : ℕ) (ds : List Elem) (k : ℕ) → length ds ≤ k → Upto s m ds k → Most s m ds
all_upto s m ds k l u d (j, h, q) = subst (λ e. size s e ≤ m) (q 𝟘) (u j (omega arith))

pub divided : (D K n : ℕ) → 1 ≤ K → n * K ≤ 6 * D → n ≤ 6 * D / K
divided D K n o h = (le-div_iff_mul-le {k = K} o).1 h

pub div_small : (m k : ℕ) → m / k ≤ m
div_small m k = div-le_self m k
