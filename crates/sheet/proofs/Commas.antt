-- Number fields parted by commas.
use Rattle.std.proofs.Common.{◌≡◌, ℕ, ◌+◌, List, [], ◌∷◌, length, sym, refl, ap, ◌∙◌, subst, arith}
use Rattle.std.proofs.ByRecursion.{All-get_or}
use Rattle.numerals.specs.Numeral.{NoComma}
use Rattle.sheet.specs.declared.field.Field.{Field}
use Rattle.sheet.specs.declared.line.System.{System}
use Rattle.sheet.specs.declared.line.System.TheVariants.{Kp, Km, G5}
use Rattle.sheet.specs.Parting.{bytes, Free, Split, Placed}
use Rattle.sheet.specs.Shape.{IsNumber, joined, Parts, Numbers, name_of, Named}
use Rattle.sheet.proofs.Splits.{same_parts, not_free}

pub apart_free : (s : List ℕ) → NoComma s → Free 44 s
apart_free s h k lt = All-get_or (λ c. c ≡ 44 → ⊥) s k 0 lt h

pub parts_none : (p : ℕ) (s : List ℕ) → Free 44 s → (a g : Field) (fs : List Field) → Parts p s (a ∷ g ∷ fs) → ⊥
parts_none p s n a g fs h = not_free 44 s (bytes a) (joined (g ∷ fs)) h.0 n

-- of numbers in whose bytes no comma stands
module _ {N : Type 0} (denotes : List ℕ → N → Type 0) (apart : (bs : List ℕ) (x : N) → denotes bs x → NoComma bs) where
  number_same : (f g : Field) → bytes f ≡ bytes g → IsNumber denotes f → IsNumber denotes g
  number_same f g e (x, h) = (x, subst (λ s. denotes s x) e h)

  pub one_number : (p : ℕ) (f a : Field) → Numbers denotes p (bytes f) (a ∷ []) → IsNumber denotes f
  one_number p f a h = number_same a f (sym h.0.0) h.1.0

  -- the first number, and the numbers behind it
  pub numbers_less : (f a rest : Field) → Split 44 f a rest → (a' g : Field) (fs : List Field) → Numbers denotes f.place (bytes f) (a' ∷ g ∷ fs) → IsNumber denotes a × Numbers denotes rest.place (bytes rest) (g ∷ fs)
  numbers_less f a rest s a' g fs ((w, places), (n, ns)) =
      let same = same_parts 44 (bytes a) (bytes a') (bytes rest) (joined (g ∷ fs)) (sym s.whole ∙ w) s.first (apart_free (bytes a') (apart (bytes a') n.0 n.1)) in
      let long = ap length same.0 in
      let place : f.place + (length (bytes a') + 1) ≡ rest.place = omega (arith, s.next) in
      (number_same a' a (sym same.0) n, ((same.1, subst (λ p. Placed p (g ∷ fs)) place places.1), ns))

  -- where the first part is no number, neither are the numbers that it begins
  pub no_first : (f a rest : Field) → Split 44 f a rest → ((x : N) → denotes (bytes a) x → ⊥) → (a' g : Field) (fs : List Field) → Numbers denotes f.place (bytes f) (a' ∷ g ∷ fs) → ⊥
  no_first f a rest s none a' g fs h = let n = (numbers_less f a rest s a' g fs h).0 in none n.0 n.1

two_free : (x y : ℕ) → (x ≡ 44 → ⊥) → (y ≡ 44 → ⊥) → Free 44 (x ∷ y ∷ [])
two_free x y m n = apart_free (x ∷ y ∷ []) (m, (n, tt))

pub name_free : (s : System) → Free 44 (name_of s)
name_free Kp = two_free _ _ (λ e. omega arith) (λ e. omega arith)
name_free Km = two_free _ _ (λ e. omega arith) (λ e. omega arith)
name_free G5 = two_free _ _ (λ e. omega arith) (λ e. omega arith)

pub name_length : (s : System) → length (name_of s) ≡ 2
name_length Kp = refl
name_length Km = refl
name_length G5 = refl

pub named_none : (p : ℕ) (t : List ℕ) → Free 44 t → (s : System) (fs : List Field) → Named p t s fs → ⊥
named_none p t n s fs (u, e, h) = not_free 44 t (name_of s) u e n

module _ (f name rest : Field) (split : Split 44 f name rest) (s : System) (fs : List Field) where
  pub named_out : Named f.place (bytes f) s fs → (bytes name ≡ name_of s) × Parts rest.place (bytes rest) fs
  named_out (u, e, h) =
      let same = same_parts 44 (bytes name) (name_of s) (bytes rest) u (sym split.whole ∙ e) split.first (name_free s) in
      let long = ap length same.0 ∙ name_length s in
      let place : f.place + 3 ≡ rest.place = omega (arith, split.next) in
      (same.0, subst (λ p. Parts p (bytes rest) fs) place (subst (λ t. Parts (f.place + 3) t fs) (sym same.1) h))
