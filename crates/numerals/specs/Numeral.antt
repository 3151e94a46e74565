-- Numerals: how a number is written, an optional minus and hexadecimal digits.
use Rattle.std.specs.Prelude.{◌≡◌, ℕ, suc, ◌+◌, ◌^◌, ◌<◌, ◌≤◌, cond, List, [], ◌∷◌, map, length, ℤ, pos, negsuc, neg_ℤ, codes, MatchBool, ◌==◌, ◌≢◌, slice_index, unsigned_abs}
use Rattle.std.specs.List.{AllByRecursion}
use Rattle.std.specs.Int.Digits.{digits_of, number_from_digits, AllBelowBase}

-- the most digits that a numeral has
abbrev pub most : ℕ
most = 12

-- the letters of the digits, the lowest first
abbrev pub letters : List ℕ
letters = codes "0123456789abcdef"

-- the first place of c in a list, and the list's length where c does not stand in it
abbrev pub place_in : List ℕ → ℕ → ℕ
place_in [] c = 0
place_in (l ∷ ls) c = cond (c == l) 0 (place_in ls c + 1)

-- the value of a digit's letter, and 16 for any other byte
abbrev pub hex_value : ℕ → ℕ
hex_value c = place_in letters c

-- the letter of a digit
abbrev pub hex_digit : ℕ → ℕ
hex_digit d = slice_index letters d

-- the number that digits stand for, the highest first
abbrev pub value : List ℕ → ℕ
value bs = number_from_digits 16 (map hex_value bs)

-- digits, as many as a numeral may have, with no needless zero in front
pub record Plain (bs : List ℕ) : Type 0 where
  pub some : 1 ≤ length bs
  pub few : length bs ≤ most
  pub digits : AllBelowBase 16 (map hex_value bs)
  pub lean : 1 < length bs → 0 < hex_value (slice_index bs 0)

-- the bytes denote n, with no minus allowed
abbrev pub Counts : List ℕ → ℕ → Type 0
Counts bs n = Plain bs × (n ≡ value bs)

-- the bytes denote z with no minus in front
abbrev pub Bare : List ℕ → ℤ → Type 0
Bare bs z = Plain bs × (z ≡ pos (value bs))

-- the bytes denote z with a minus in front of them: they stand for a number above 0
abbrev pub Minus : List ℕ → ℤ → Type 0
Minus bs z = Plain bs × (0 < value bs) × (z ≡ neg_ℤ (pos (value bs)))

-- the bytes denote z
abbrev pub Reads : List ℕ → ℤ → Type 0
Reads [] z = ⊥
Reads (c ∷ cs) z = MatchBool (c == 45) (Minus cs z) (Bare (c ∷ cs) z)

-- no comma stands in the bytes
abbrev pub NoComma : List ℕ → Type 0
NoComma bs = AllByRecursion (λ c. c ≢ 44) bs

-- the digits of a natural number
unfoldable pub hex : ℕ → List ℕ
hex n = cond (n == 0) (48 ∷ []) (map hex_digit (digits_of 16 n))

-- the bytes of a whole number
abbrev pub written : ℤ → List ℕ
written (pos n) = hex n
written (negsuc n) = 45 ∷ hex (suc n)

-- z needs no more digits than a numeral may have
abbrev pub Writable : ℤ → Type 0
Writable z = unsigned_abs z < 16 ^ most

-- what is written is read as itself
abbrev pub ReadAsWritten : Type 0
ReadAsWritten = (z : ℤ) → Writable z → Reads (written z) z

-- bytes denote at most one number, and one that can be written
abbrev pub OneNumber : Type 0
OneNumber = (bs : List ℕ) (y z : ℤ) → Reads bs y → Reads bs z → (y ≡ z) × Writable z

-- without a minus the two ways to read agree
abbrev pub CountsAreRead : Type 0
CountsAreRead = (bs : List ℕ) (n : ℕ) → Counts bs n → Reads bs (pos n)
