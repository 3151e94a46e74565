-- Parts before and behind a byte.
use Rattle.std.proofs.Common.{◌≡◌, ℕ, suc, ◌+◌, List, [], ◌∷◌, ◌++◌, length, get_or, sym, refl, ap, ◌∙◌, subst, append_assoc, arith, length-append}
use lib.Seq.{get_or_at}
use Rattle.sheet.specs.declared.field.Field.{Field}
use Rattle.sheet.specs.Parting.{bytes, Free, Lines, ended, Placed}

free_tail : (b x : ℕ) (xs : List ℕ) → Free b (x ∷ xs) → Free b xs
free_tail b x xs h k lt e = h (suc k) (omega arith) e

-- where b stands in neither front, fronts and rests are the same
pub same_parts : (b : ℕ) (a a' c c' : List ℕ) → a ++ (b ∷ c) ≡ a' ++ (b ∷ c') → Free b a → Free b a' → (a ≡ a') × (c ≡ c')
same_parts b [] [] c c' e n n' = (refl, cc)
same_parts b [] (x ∷ a') c c' e n n' = absurd (n' 0 (omega arith) (cc))
same_parts b (x ∷ a) [] c c' e n n' = absurd (n 0 (omega arith) (cc))
same_parts b (x ∷ a) (y ∷ a') c c' e n n' =
    let h = same_parts b a a' c c' (cc) (free_tail b x a n) (free_tail b y a' n') in
    let head : x ≡ y = cc in
    ((λ i. head i ∷ h.0 i), h.1)

-- a list with b in it is not free of b
pub not_free : (b : ℕ) (s a c : List ℕ) → s ≡ a ++ (b ∷ c) → Free b s → ⊥
not_free b s a c e n =
    n (length a) (omega (arith, ap length e, length-append a (b ∷ c))) (ap (λ l. get_or l (length a) 0) e ∙ get_or_at a b c 0 _ refl)

pub lines_are_the_sheet : (f : Field) (lines : List Field) (left : Field) → Lines f lines left → (bytes f ≡ ended lines ++ bytes left) × Placed f.place lines × (left.place ≡ f.place + length (ended lines))
lines_are_the_sheet f [] left h = (h.0, tt, omega (arith, h.1))
lines_are_the_sheet f (line ∷ lines) left (rest, s, h) =
    let more = lines_are_the_sheet rest lines left h in (
      s.whole ∙ ap (λ l. bytes line ++ (10 ∷ l)) more.0 ∙ sym (append_assoc (bytes line) (10 ∷ ended lines) (bytes left)),
      (s.here, subst (λ p. Placed p lines) s.next more.1),
      omega (arith, s.next, more.2, length-append (bytes line) (10 ∷ ended lines)),
    )
