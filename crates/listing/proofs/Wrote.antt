-- A line while it is written.
use Rattle.std.proofs.Common.{◌≡◌, ℕ, ◌+◌, ◌*◌, ◌<◌, ◌≤◌, List, [], ◌∷◌, ◌++◌, length, get_or, take, drop, set, ℤ, pos, sym, refl, ap, ◌∙◌, subst, append_assoc, append-nil, arith, length-append, take-append-drop}
use Rattle.std.specs.List.{AllByRecursion}
use Rattle.std.proofs.lemmas.List.{take_more, length_push}
use Rattle.numerals.specs.Numeral.{most, written, Writable}
use Rattle.numerals.specs.Overwrite.{overwrite}
use Rattle.numerals.proofs.Overwriting.{overwrite_none, overwrite_more, overwrite_twice, overwrite_front, length_written}
use Rattle.listing.specs.Lines.{fields, line_of}

-- out is s with xs written over it from place start on, and at is the place after xs
pub record Wrote (s : List ℕ) (start : ℕ) (xs out : List ℕ) (at : ℕ) : Type 0 where
  pub text : out ≡ overwrite s start xs
  pub end : at ≡ start + length xs

pub wrote_none : (s : List ℕ) (start : ℕ) → Wrote s start [] s start
wrote_none s start = record { text = sym (overwrite_none s start); end = omega arith }

module _ (s : List ℕ) (start : ℕ) (xs out : List ℕ) (at : ℕ) (w : Wrote s start xs out at) where
  pub wrote_byte : (b : ℕ) → start + length xs < length s → Wrote s start (xs ++ (b ∷ [])) (set out at b) (at + 1)
  wrote_byte b h =
      record {
        text = (λ i. set (w.text i) (w.end i) b) ∙ overwrite_more s start xs b h;
        end = omega (arith, w.end, length_push xs b);
      }

  pub wrote_more : (ys out' : List ℕ) (at' : ℕ) → out' ≡ overwrite out at ys → at' ≡ at + length ys → start + (length xs + length ys) ≤ length s → Wrote s start (xs ++ ys) out' at'
  wrote_more ys out' at' o e h =
      record {
        text = o ∙ (λ i. overwrite (w.text i) (w.end i) ys) ∙ overwrite_twice s start xs ys h;
        end = omega (arith, w.end, length-append xs ys);
      }

pub wrote_front : (s xs out : List ℕ) (at : ℕ) → Wrote s 0 xs out at → out ≡ xs ++ drop at s
wrote_front s xs out at w =
    let e : length xs ≡ at = omega (arith, w.end) in
    w.text ∙ overwrite_front s xs ∙ ap (λ n. xs ++ drop n s) e

fields_append : (xs ys : List ℤ) → fields (xs ++ ys) ≡ fields xs ++ fields ys
fields_append [] ys = refl
fields_append (x ∷ xs) ys =
    ap (λ l. (44 ∷ written x) ++ l) (fields_append xs ys) ∙ sym (append_assoc (44 ∷ written x) (fields xs) (fields ys))

module _ (xs : List ℤ) (i : ℕ) (lt : i < length xs) where
  pub fields_more : fields (take (i + 1) xs) ≡ fields (take i xs) ++ (44 ∷ []) ++ written (get_or xs i (pos 0))
  fields_more =
      let x = get_or xs i (pos 0) in
      ap fields (take_more xs i (pos 0) lt) ∙ fields_append (take i xs) (x ∷ []) ∙ ap (λ l. fields (take i xs) ++ l) (append-nil (44 ∷ written x)) ∙ sym (append_assoc (fields (take i xs)) (44 ∷ []) (written x))

  -- a field more has room where all have
  pub fields_room : length (fields (take i xs)) + (1 + length (written (get_or xs i (pos 0)))) ≤ length (fields xs)
  fields_room =
      let front = fields (take i xs) in
      let x = get_or xs i (pos 0) in
      let whole : length (fields xs) ≡ length (fields (take (i + 1) xs)) + length (fields (drop (i + 1) xs)) =
      ap (λ l. length (fields l)) (sym (take-append-drop (i + 1) xs)) ∙ ap length (fields_append (take (i + 1) xs) (drop (i + 1) xs)) ∙ length-append (fields (take (i + 1) xs)) (fields (drop (i + 1) xs)) in
      omega (arith, ap length fields_more, length-append (front ++ (44 ∷ [])) (written x), length-append front (44 ∷ []))

-- a field more is written behind those before it
pub wrote_field : (s : List ℕ) (start : ℕ) (xs : List ℤ) (i : ℕ) → start + length (fields xs) ≤ length s → i < length xs → (out : List ℕ) (at : ℕ) → Wrote s start (fields (take i xs)) out at → (out' : List ℕ) (at' : ℕ) → out' ≡ overwrite (set out at 44) (at + 1) (written (get_or xs i (pos 0))) → at' ≡ at + 1 + length (written (get_or xs i (pos 0))) → Wrote s start (fields (take (i + 1) xs)) out' at'
wrote_field s start xs i h lt out at w out' at' o e =
    let x = get_or xs i (pos 0) in
    let long = length_push (fields (take i xs)) 44 in
    let room = fields_room xs i lt in
    let b = wrote_byte _ _ _ _ _ w 44 (omega arith) in
    subst (λ l. Wrote s start l out' at') (sym (fields_more xs i lt)) (wrote_more _ _ _ _ _ b (written x) _ _ o e (omega arith))

-- numbers that can be written take few bytes
pub length_fields : (xs : List ℤ) → AllByRecursion Writable xs → length (fields xs) ≤ (most + 2) * length xs
length_fields [] h = omega arith
length_fields (x ∷ xs) h =
    omega (arith, length-append (44 ∷ written x) (fields xs), length_written most x (omega arith) h.0, length_fields xs h.1)

-- a line has room
pub length_line : (head : List ℕ) (xs : List ℤ) → length (line_of head xs) ≡ length head + length (fields xs) + 1
length_line head xs = length-append (head ++ fields xs) (10 ∷ []) ∙ ap (λ n. n + 1) (length-append head (fields xs))
