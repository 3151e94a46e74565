-- Digits read, and the minus before them.
use Rattle.std.proofs.Common.{◌≡◌, ℕ, ◌+◌, ◌*◌, ◌^◌, ◌<◌, ◌≤◌, List, [], ◌∷◌, map, length, get_or, take, ℤ, pos, MatchBool, sym, ap, ◌∙◌, subst, arith, length-take, w64, SFits, ne_eqb}
use native.Mathlib.Nat.{pow-le-pow_right}
use lib.ListN.{length-map}
use Rattle.std.specs.Int.Digits.{number_from_digits, AllBelowBase}
use Rattle.std.proofs.lemmas.Int.Digits.{number_lt, number_push}
use Rattle.std.proofs.lemmas.List.{map_more, get_or-map}
use Rattle.std.proofs.ByRecursion.{All-push, All-get_or}
use Rattle.std.proofs.lemmas.Int.{ints}
use Rattle.numerals.specs.Numeral.{Counts, most, hex_value, value, Plain, Bare, Minus, Reads}

pub under_lt : (bs : List ℕ) → length bs ≤ most → AllBelowBase 16 (map hex_value bs) → value bs < 16 ^ most
under_lt bs few u =
    let below = number_lt 16 (map hex_value bs) u in
    let long : length (map hex_value bs) ≤ most = rw length-map few in
    let more : 16 ^ length (map hex_value bs) ≤ 16 ^ most = pow-le-pow_right (omega arith) long in
    omega arith

pub value_lt : (bs : List ℕ) → Plain bs → value bs < 16 ^ most
value_lt bs p = under_lt bs p.few p.digits

pub counted_lt : (bs : List ℕ) (n : ℕ) → Counts bs n → n < 16 ^ most
counted_lt bs n h = omega (arith, value_lt bs h.0, h.1)

module _ (bs : List ℕ) (i : ℕ) (lt : i < length bs) where
  pub value_more : value (take (i + 1) bs) ≡ value (take i bs) * 16 + hex_value (get_or bs i 0)
  value_more = ap (number_from_digits 16) (map_more hex_value bs i 0 lt) ∙ number_push 16 (map hex_value (take i bs)) (hex_value (get_or bs i 0))

  pub under_more : AllBelowBase 16 (map hex_value (take i bs)) → hex_value (get_or bs i 0) < 16 → AllBelowBase 16 (map hex_value (take (i + 1) bs))
  under_more u h = subst (AllBelowBase 16) (sym (map_more hex_value bs i 0 lt)) (All-push _ _ _ u h)

  pub no_digit : 16 ≤ hex_value (get_or bs i 0) → Plain bs → ⊥
  no_digit h p =
      let long : i < length (map hex_value bs) = rw length-map lt in
      omega (arith, All-get_or (λ d. d < 16) (map hex_value bs) i 0 long p.digits, get_or-map hex_value bs i 0 0 lt)

-- what the digits before place i make is small
pub so_far : (bs : List ℕ) (i n : ℕ) → i < length bs → length bs ≤ most → (n ≡ value (take i bs)) × AllBelowBase 16 (map hex_value (take i bs)) → n < 16 ^ most
so_far bs i n lt few h = omega (arith, h.0, under_lt (take i bs) (rw length-take (omega arith)) h.1)

pub bare_in : (bs : List ℕ) (z : ℤ) → (1 ≤ length bs → get_or bs 0 0 ≡ 45 → ⊥) → Bare bs z → Reads bs z
bare_in [] z n r = absurd (omega (arith, r.0.some))
bare_in (c ∷ cs) z n r = subst (λ b. MatchBool b (Minus cs z) (Bare (c ∷ cs) z)) (sym (ne_eqb c 45 (n (omega arith)))) r

-- a number that is read can be held
pub fits : (n : ℕ) → n < 16 ^ most → SFits w64 (pos n)
fits n h = omega (arith, ints)
