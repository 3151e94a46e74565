-- What a word engine means.
use Rattle.std.specs.Prelude.{ℕ, ◌%◌, ◌^◌, Bool, false, cond, ◌&&◌, ℤ, pos, negsuc, ◌==◌, bit_xor, nat_lt, unsigned_abs}
use Rattle.engine.specs.Meaning.{Meaning}
use Rattle.engine.specs.declared.Point.{Point}

abbrev pub words : ℕ → ℕ → Point
words u v = record { u = pos u; v = pos v }

-- a natural number below 2^32
abbrev pub is_word : ℤ → Bool
is_word (pos k) = nat_lt k (2 ^ 32)
is_word (negsuc k) = false

-- the exclusive or of both words
abbrev pub summed : Point → Point → Point
summed p q = words (bit_xor (unsigned_abs p.u) (unsigned_abs q.u)) (bit_xor (unsigned_abs p.v) (unsigned_abs q.v))

unfoldable pub odd : ℤ → Bool
odd z = unsigned_abs z % 2 == 1

-- w if z is odd, else 0
abbrev pub if_odd : ℤ → ℕ → ℕ
if_odd z w = cond (odd z) w 0

-- the points are pairs of words, summed by exclusive or; θ takes (u,v) to (v if n is odd, u xor (v if t is odd))
abbrev pub word : ℤ → ℤ → ℕ → ℕ → Meaning Point
word t n u v = record {
  t = t;
  n = n;
  start = words u v;
  is_point = λ p. is_word p.u && is_word p.v;
  sum = summed;
  θ = λ p. words (if_odd n (unsigned_abs p.v)) (bit_xor (unsigned_abs p.u) (if_odd t (unsigned_abs p.v)));
  origin = words 0 0;
  opposite = λ p. p;
}
