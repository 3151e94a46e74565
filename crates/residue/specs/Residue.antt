-- What a residue engine means, and which numbers make one.
use Rattle.std.specs.Prelude.{◌≡◌, ◌^◌, ◌&&◌, ℤ, pos, ◌+ℤ◌, ◌-ℤ◌, ◌*ℤ◌, ◌≤ℤ◌, ◌<ℤ◌, ◌==◌, int_lt, int_rem, unsigned_abs}
use Rattle.std.specs.Int.Signed.{non_neg}
use Rattle.engine.specs.Meaning.{Meaning}
use Rattle.engine.specs.Rings.{InRing}
use Rattle.engine.specs.declared.Point.{Point}

abbrev pub at : ℤ → Point
at v = record { u = v; v = pos 0 }

-- the points are (v,0) with 0 ≤ v < m, summed modulo m; θ multiplies by r
abbrev pub residue : ℤ → ℤ → ℤ → ℤ → ℤ → Meaning Point
residue t n m r g = record {
  t = t;
  n = n;
  start = at g;
  is_point = λ p. (non_neg p.u && int_lt p.u m) && (unsigned_abs p.v == 0);
  sum = λ p q. at (int_rem (p.u +ℤ q.u) m);
  θ = λ p. at (int_rem (r *ℤ p.u) m);
  origin = at (pos 0);
  opposite = λ p. at (int_rem (m -ℤ p.u) m);
}

-- from 2 to 2^31 − 1
abbrev pub Modulus : ℤ → Type 0
Modulus m = (pos 2 ≤ℤ m) × (m <ℤ pos (2 ^ 31))

-- r² − t·r + n
abbrev pub at_root : ℤ → ℤ → ℤ → ℤ
at_root t n r = r *ℤ r -ℤ t *ℤ r +ℤ n

-- t and n are in range, r and g from 0 to m − 1, and m divides r² − t·r + n
abbrev pub Root : ℤ → ℤ → ℤ → ℤ → ℤ → Type 0
Root t n m r g = InRing t n × (pos 0 ≤ℤ r) × (r <ℤ m) × (pos 0 ≤ℤ g) × (g <ℤ m) × (int_rem (at_root t n r) m ≡ pos 0)
