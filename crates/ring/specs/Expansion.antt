-- Expansions of an element over a set of digits, in powers of the base.
use Rattle.std.specs.Prelude.{◌≡◌, ℕ, ◌+◌, ◌<◌, ◌≢◌, ◌⊎◌, List, [], ◌∷◌, slice_index_or}
use Rattle.std.specs.List.{AllByRecursion}
use Rattle.ring.specs.Elem.{Elem, add, 𝟘}
use Rattle.ring.specs.System.{System, mul}

-- the weighted sum e₀ + e₁β + e₂β² + ..
abbrev pub weighted : System → List Elem → Elem
weighted s [] = 𝟘
weighted s (e ∷ es) = add e (mul s s.β (weighted s es))

abbrev pub LastNonzero : List Elem → Type 0
LastNonzero [] = Unit {0}
LastNonzero (e ∷ []) = e ≢ 𝟘
LastNonzero (e ∷ f ∷ es) = LastNonzero (f ∷ es)

-- es, lowest entry first, is an expansion of z over the digits S at width w;
-- of any w neighbours at most one is not 0, zeros past the end counted
pub record Expands (s : System) (w : ℕ) (S : Elem → Type 0) (z : Elem) (es : List Elem) : Type 0 where
  pub total : weighted s es ≡ z
  pub entries : AllByRecursion (λ e. (e ≡ 𝟘) ⊎ S e) es
  pub last : LastNonzero es
  pub sparse : (i j : ℕ) → i < j → j < i + w → (slice_index_or es i 𝟘 ≡ 𝟘) ⊎ (slice_index_or es j 𝟘 ≡ 𝟘)

abbrev pub HasExpansion : System → ℕ → (Elem → Type 0) → Elem → Type 0
HasExpansion s w S z = (es : List Elem) × Expands s w S z es
