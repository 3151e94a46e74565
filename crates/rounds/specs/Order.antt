-- The order of the search, where the norms are known as natural numbers.
use Rattle.std.specs.Prelude.{◌≡◌, ℕ, ◌<◌, ◌⊎◌, ◌<ℤ◌}
use Rattle.ring.specs.Elem.{Elem}

-- a, of norm m, comes before b, of norm n: the same as ring's Before
abbrev pub Ordered : ℕ → Elem → ℕ → Elem → Type 0
Ordered m a n b = (m < n) ⊎ ((m ≡ n) × ((a.x <ℤ b.x) ⊎ ((a.x ≡ b.x) × (a.y <ℤ b.y))))
