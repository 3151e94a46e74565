-- What is written is read as itself.
use Rattle.std.proofs.Common.{◌≡◌, ℕ, zero, suc, ◌^◌, ◌<◌, ◌≤◌, Bool, true, false, eqb, List, [], ◌∷◌, map, length, get_or, ℤ, pos, negsuc, neg_ℤ, nat_abs, MatchBool, sym, refl, ap, ◌∙◌, subst, arith, tests}
use lib.ListN.{length-map}
use Rattle.std.specs.Int.Digits.{digits_of, number_from_digits, AllBelowBase}
use Rattle.std.proofs.lemmas.Int.Digits.{number_digits_of, length-digits_of-le, length-digits_of_step, all_below_base_digits_of, first_digits_of}
use Rattle.std.proofs.ByRecursion.{All-get_or}
use Rattle.std.proofs.lemmas.List.{get_or-map}
use Rattle.numerals.specs.Numeral.{most, Counts, Writable, hex_value, hex_digit, value, hex, Plain, Bare, Minus, Reads, written}
use Rattle.numerals.proofs.Digits.{value_lt, bare_in}
use Rattle.numerals.proofs.Overwriting.{hex_is, hex_zero}

digit_back : (d : ℕ) → d < 16 → hex_value (hex_digit d) ≡ d
digit_back d h = grind (arith, tests)

map_back : (ds : List ℕ) → AllBelowBase 16 ds → map hex_value (map hex_digit ds) ≡ ds
map_back [] u = refl
map_back (d ∷ ds) u = λ i. digit_back d u.0 i ∷ map_back ds u.1 i

-- what holds of the digits of a number above 0
module _ (n : ℕ) (some : 0 < n) where
  ds : List ℕ
  ds = digits_of 16 n

  under : AllBelowBase 16 (digits_of 16 n)
  under = all_below_base_digits_of 16 n (omega arith)

  long : 0 < length (digits_of 16 n)
  long = omega (arith, length-digits_of_step 16 n (omega arith) some)

  first_is : get_or (map hex_digit (digits_of 16 n)) 0 0 ≡ hex_digit (get_or (digits_of 16 n) 0 0)
  first_is = get_or-map hex_digit (digits_of 16 n) 0 0 0 long

  value_some : value (hex n) ≡ n
  value_some = ap value (hex_is n some) ∙ ap (number_from_digits 16) (map_back _ under) ∙ number_digits_of 16 n (omega arith)

  plain_some : n < 16 ^ most → Plain (map hex_digit (digits_of 16 n))
  plain_some h =
      let size = length-map (digits_of 16 n) hex_digit in
      record {
        some = omega (arith, long);
        few = omega (arith, length-digits_of-le 16 most n (omega arith) h);
        digits = subst (AllBelowBase 16) (sym (map_back _ under)) under;
        lean = λ _. subst (λ k. 0 < k) (sym (ap hex_value first_is ∙ digit_back _ (All-get_or (λ d. d < 16) _ 0 0 long under))) (first_digits_of 16 n (omega arith) some);
      }

pub value_hex : (n : ℕ) → value (hex n) ≡ n
value_hex zero = ap value hex_zero
value_hex (suc n) = value_some (suc n) (omega arith)

pub plain_hex : (n : ℕ) → n < 16 ^ most → Plain (hex n)
plain_hex zero h =
    subst Plain (sym hex_zero) (record { some = omega arith; few = omega arith; digits = (omega arith, tt); lean = λ l. absurd (omega arith) })
plain_hex (suc n) h = subst Plain (sym (hex_is (suc n) (omega arith))) (plain_some (suc n) (omega arith) h)

-- a number with no minus in front
pub no_minus_plain : (bs : List ℕ) → Plain bs → 1 ≤ length bs → get_or bs 0 0 ≡ 45 → ⊥
no_minus_plain bs p h e =
    let long : 0 < length (map hex_value bs) = omega (arith, length-map bs hex_value) in
    omega (arith, ap hex_value e, get_or-map hex_value bs 0 0 0 h, All-get_or (λ d. d < 16) (map hex_value bs) 0 0 long p.digits)

pub reads_written : (z : ℤ) → nat_abs z < 16 ^ most → Reads (written z) z
reads_written (pos n) h = bare_in (hex n) (pos n) (no_minus_plain (hex n) (plain_hex n h)) (plain_hex n h, ap pos (sym (value_hex n)))
reads_written (negsuc n) h =
    (plain_hex (suc n) h, omega (arith, value_hex (suc n)), ap (λ k. neg_ℤ (pos k)) (sym (value_hex (suc n))))

pub counts_are_read : (bs : List ℕ) (n : ℕ) → Counts bs n → Reads bs (pos n)
counts_are_read bs n h = bare_in bs (pos n) (no_minus_plain bs h.0) (h.0, ap pos h.1)

abs_minus : (n : ℕ) → nat_abs (neg_ℤ (pos n)) ≡ n
abs_minus zero = refl
abs_minus (suc n) = refl

one_of : (b : Bool) (c : ℕ) (cs : List ℕ) (y z : ℤ) → MatchBool b (Minus cs y) (Bare (c ∷ cs) y) → MatchBool b (Minus cs z) (Bare (c ∷ cs) z) → (y ≡ z) × Writable z
one_of true c cs y z p q = (p.2 ∙ sym q.2, omega (arith, ap nat_abs q.2, abs_minus (value cs), value_lt cs q.0))
one_of false c cs y z p q = (p.1 ∙ sym q.1, omega (arith, ap nat_abs q.1, value_lt (c ∷ cs) q.0))

pub one_number : (bs : List ℕ) (y z : ℤ) → Reads bs y → Reads bs z → (y ≡ z) × Writable z
one_number [] y z p q = absurd p
one_number (c ∷ cs) y z p q = one_of (eqb c 45) c cs y z p q
