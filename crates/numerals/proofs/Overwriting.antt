-- Digits written over a buffer.
use Rattle.std.proofs.Common.{◌≡◌, ℕ, zero, suc, ◌+◌, ◌/◌, ◌%◌, ◌^◌, ◌<◌, ◌≤◌, true, false, eqb, List, [], ◌∷◌, ◌++◌, map, length, get_or, take, drop, set, ℤ, pos, negsuc, nat_abs, sym, refl, ap, ◌∙◌, append_assoc, add-zero, add_assoc, arith, length-append, take-append-drop, length-take-le, drop-drop, take_at, ltb-true, ne_eqb}
use borrow.Author.Tests.{clash}
use lib.ListN.{length-map}
use lib.Seq.{drop-append-add}
use Rattle.std.specs.Int.Digits.{digits_of}
use Rattle.std.proofs.lemmas.Int.Digits.{digits_of_step, length-digits_of-le}
use Rattle.std.proofs.lemmas.Bool.{cond-false}
use Rattle.std.proofs.lemmas.List.{map_push, length_push, set_split, set_at, drop_more}
use lib.Signed.{lt_z}
use Rattle.numerals.specs.Numeral.{hex_digit, hex, written}
use Rattle.numerals.specs.Overwrite.{overwrite}

pub hex_is : (n : ℕ) → 0 < n → hex n ≡ map hex_digit (digits_of 16 n)
unfolding hex
hex_is n h = cond-false (eqb n 0) _ _ (ne_eqb n 0 (λ e. omega arith))

pub hex_zero : hex 0 ≡ 48 ∷ []
unfolding hex
hex_zero = refl

pub hex_step : (n : ℕ) → 16 ≤ n → hex n ≡ hex (n / 16) ++ (hex_digit (n % 16) ∷ [])
hex_step n h =
    hex_is n (omega arith) ∙ ap (map hex_digit) (digits_of_step 16 n (omega arith) (omega arith)) ∙ map_push hex_digit _ _ ∙ ap (λ l. l ++ (hex_digit (n % 16) ∷ [])) (sym (hex_is (n / 16) (omega arith)))

pub hex_one : (n : ℕ) → n < 16 → hex n ≡ hex_digit n ∷ []
hex_one zero h = hex_zero
hex_one (suc n) h =
    let q : suc n / 16 ≡ 0 = omega arith in
    let m : suc n % 16 ≡ suc n = omega arith in
    hex_is (suc n) (omega arith) ∙ ap (map hex_digit) (digits_of_step 16 (suc n) (omega arith) (omega arith) ∙ ap (λ l. digits_of 16 l ++ (suc n % 16 ∷ [])) q ∙ ap (λ k. k ∷ []) m)

pub length_hex_step : (n : ℕ) → 16 ≤ n → length (hex n) ≡ length (hex (n / 16)) + 1
length_hex_step n h = ap length (hex_step n h) ∙ length_push _ _

module _ (s : List ℕ) (at : ℕ) where
  pub overwrite_one : (v : ℕ) → at < length s → set s at v ≡ overwrite s at (v ∷ [])
  unfolding overwrite
  overwrite_one v h = let e : suc at ≡ at + 1 = omega arith in set_split s at v h ∙ ap (λ n. take at s ++ (v ∷ drop n s)) e

  pub overwrite_more : (xs : List ℕ) (v : ℕ) → at + length xs < length s → set (overwrite s at xs) (at + length xs) v ≡ overwrite s at (xs ++ (v ∷ []))
  unfolding overwrite
  overwrite_more xs v h =
      let front = take at s ++ xs in
      let n = at + length xs in
      let long : length front ≡ n = length-append (take at s) xs ∙ ap (λ k. k + length xs) (length-take-le at s (omega arith)) in
      ap (λ l. set l n v) (sym (append_assoc (take at s) xs (drop n s)) ∙ ap (λ l. front ++ l) (drop_more s n 0 h))
      ∙ set_at front (get_or s n 0) (drop (n + 1) s) v n long
      ∙ append_assoc (take at s) xs (v ∷ drop (n + 1) s)
      ∙ ap (λ l. take at s ++ l) (sym (append_assoc xs (v ∷ []) (drop (n + 1) s)) ∙ ap (λ k. (xs ++ (v ∷ [])) ++ drop k s) (add_assoc at (length xs) 1 ∙ ap (λ k. at + k) (sym (length_push xs v))))

  pub overwrite_twice : (xs ys : List ℕ) → at + (length xs + length ys) ≤ length s → overwrite (overwrite s at xs) (at + length xs) ys ≡ overwrite s at (xs ++ ys)
  unfolding overwrite
  overwrite_twice xs ys h =
      let front = take at s ++ xs in
      let n = at + length xs in
      let long : length front ≡ n = length-append (take at s) xs ∙ ap (λ k. k + length xs) (length-take-le at s (omega arith)) in
      let whole : take at s ++ (xs ++ drop n s) ≡ front ++ drop n s = sym (append_assoc (take at s) xs (drop n s)) in
      let more : length front + length ys ≡ n + length ys = omega arith in
      let sum : n + length ys ≡ at + length (xs ++ ys) = omega (arith, length-append xs ys) in
      ap (λ l. take n l ++ (ys ++ drop (n + length ys) l)) whole
      ∙ (λ i. take_at front (drop n s) n long i ++ (ys ++ (ap (λ k. drop k (front ++ drop n s)) (sym more) ∙ drop-append-add front (drop n s) (length ys) ∙ drop-drop (length ys) n s) i))
      ∙ append_assoc (take at s) xs (ys ++ drop (n + length ys) s)
      ∙ ap (λ l. take at s ++ l) (sym (append_assoc xs ys (drop (n + length ys) s)) ∙ ap (λ k. (xs ++ ys) ++ drop k s) sum)

  pub overwrite_none : overwrite s at [] ≡ s
  unfolding overwrite
  overwrite_none = ap (λ k. take at s ++ drop k s) (add-zero at) ∙ take-append-drop at s

pub written_minus : (x y : ℤ) → y ≡ x → lt_z y (pos 0) ≡ true → written x ≡ 45 ∷ hex (nat_abs x)
written_minus (pos n) y e h = absurd (omega (arith, ltb-true n 0 (ap (λ z. lt_z z (pos 0)) (sym e) ∙ h)))
written_minus (negsuc n) y e h = refl

pub written_bare : (x y : ℤ) → y ≡ x → lt_z y (pos 0) ≡ false → written x ≡ hex (nat_abs x)
written_bare (pos n) y e h = refl
written_bare (negsuc n) y e h = absurd (clash (sym h ∙ ap (λ z. lt_z z (pos 0)) e))

-- the sign of x stands at place at
pub record Signs (s : List ℕ) (at : ℕ) (out : List ℕ) (start : ℕ) (x : ℤ) : Type 0 where
  pub sign : List ℕ
  pub out_is : out ≡ overwrite s at sign
  pub start_is : start ≡ at + length sign
  pub whole : sign ++ hex (nat_abs x) ≡ written x

-- the digits behind the sign are the number
pub signed_after : (s : List ℕ) (at : ℕ) (out : List ℕ) (start : ℕ) (x : ℤ) → Signs s at out start x → (n : ℕ) (last : List ℕ) → n ≡ nat_abs x → last ≡ overwrite out start (hex n) → at + length (written x) ≤ length s → last ≡ overwrite s at (written x)
signed_after s at out start x g n last m o room =
    let long = ap length g.whole in
    let parts = length-append g.sign (hex (nat_abs x)) in
    o ∙ (λ i. overwrite (g.out_is i) (g.start_is i) (hex (m i))) ∙ overwrite_twice s at g.sign (hex (nat_abs x)) (omega arith) ∙ ap (overwrite s at) g.whole

-- what is written of a number below 16 ^ k
pub length_hex : (k n : ℕ) → 1 ≤ k → n < 16 ^ k → length (hex n) ≤ k
length_hex k zero h lt = omega (arith, ap length hex_zero)
length_hex k (suc n) h lt =
    omega (arith, ap length (hex_is (suc n) (omega arith)), length-map (digits_of 16 (suc n)) hex_digit, length-digits_of-le 16 k (suc n) (omega arith) lt)

pub length_written : (k : ℕ) (z : ℤ) → 1 ≤ k → nat_abs z < 16 ^ k → length (written z) ≤ k + 1
length_written k (pos n) h lt = omega (arith, length_hex k n h lt)
length_written k (negsuc n) h lt = omega (arith, length_hex k (suc n) h lt)

pub overwrite_front : (s xs : List ℕ) → overwrite s 0 xs ≡ xs ++ drop (length xs) s
unfolding overwrite
overwrite_front s xs = let e : 0 + length xs ≡ length xs = omega arith in ap (λ n. xs ++ drop n s) e
