-- A line's letter and its comma.
use Rattle.std.proofs.Common.{◌≡◌, ℕ, ◌+◌, ◌-◌, ◌≤◌, List, [], ◌∷◌, ◌++◌, length, get_or, take, drop, Some, None, Option, sym, refl, ◌∙◌, subst, append_assoc, arith, length-append, MatchOption, MatchResult}
use Rattle.std.proofs.lemmas.Slice.{between_to_end}
use Rattle.std.specs.List.{AllByRecursion}
use Rattle.std.specs.Option.{ok_or}
use Rattle.refusals.specs.declared.Refusal.TheVariants as refusal
use Rattle.numerals.specs.Numeral.{Counts}
use Rattle.sheet.specs.declared.field.Field.{Field}
use Rattle.sheet.specs.declared.line.System.{System as Name}
use Rattle.sheet.specs.declared.line.Line.{Line}
use Rattle.sheet.specs.declared.line.Line.TheVariants.{System, Width, Put, Take, Check, Load}
use Rattle.sheet.specs.Shape.{IsNumber, Parts, name_of, Named, head_of, Body, Shape}
use Rattle.sheet.proofs.Commas.{name_length}

module _ (p k : ℕ) (t : List ℕ) where
  pub body_in : (l : Line) → Body k (p + 2) t l → Shape p (k ∷ 44 ∷ t) l
  body_in (System s m r g) (i, (u, e, h)) =
      let long = length-append (name_of s) (44 ∷ []) in
      let size = name_length s in
      let place : p + 2 + 3 ≡ p + length (head_of (System s m r g)) = omega arith in
      (u, (λ j. i j ∷ 44 ∷ (e ∙ sym (append_assoc (name_of s) (44 ∷ []) u)) j), subst (λ n. Parts n u (m.field ∷ r.field ∷ g.field ∷ [])) place h)
  body_in (Width w) (i, h) = (t, (λ j. i j ∷ 44 ∷ t), h)
  body_in (Put x y) (i, h) = (t, (λ j. i j ∷ 44 ∷ t), h)
  body_in (Take x y) (i, h) = (t, (λ j. i j ∷ 44 ∷ t), h)
  body_in Check h = absurd h
  body_in (Load x y) (i, h) = (t, (λ j. i j ∷ 44 ∷ t), h)

  pub body_out : (l : Line) → Shape p (k ∷ 44 ∷ t) l → Body k (p + 2) t l
  body_out (System s m r g) (u, e, h) =
      let long = length-append (name_of s) (44 ∷ []) in
      let size = name_length s in
      let place : p + length (head_of (System s m r g)) ≡ p + 2 + 3 = omega arith in
      let i : k ≡ 83 = cc in
      let tail : t ≡ name_of s ++ (44 ∷ []) ++ u = cc in
      (i, (u, tail ∙ append_assoc (name_of s) (44 ∷ []) u, subst (λ n. Parts n u (m.field ∷ r.field ∷ g.field ∷ [])) place h))
  body_out (Width w) (u, e, h) = ((cc), subst (λ l. Parts (p + 2) l (w.field ∷ [])) (cc) h)
  body_out (Put x y) (u, e, h) = ((cc), subst (λ l. Parts (p + 2) l (x.field ∷ y.field ∷ [])) (cc) h)
  body_out (Take x y) (u, e, h) = ((cc), subst (λ l. Parts (p + 2) l (x.field ∷ y.field ∷ [])) (cc) h)
  body_out Check (u, e, h) = let no : ◌≡◌ {A = ℕ} 0 1 = cc h.0 in omega arith
  body_out (Load x y) (u, e, h) = ((cc), subst (λ l. Parts (p + 2) l (x.field ∷ y.field ∷ [])) (cc) h)

-- what is read behind a letter and a comma is the line, and where nothing is, the line is refused
pub with_head : (p k : ℕ) (s : List ℕ) (o : Option Line) → 2 ≤ length s → k ≡ get_or s 0 0 → get_or s 1 0 ≡ 44 → MatchOption o ((l : Line) → Body k (p + 2) (take (length s - 2) (drop 2 s)) l → ⊥) (λ l. Body k (p + 2) (take (length s - 2) (drop 2 s)) l) → MatchResult (ok_or o refusal.Line) (λ l. Shape p s l) (λ e. (e ≡ refusal.Line) × ((l : Line) → Shape p s l → ⊥))
with_head p k [] o h i e b = absurd (omega arith)
with_head p k (x ∷ []) o h i e b = absurd (omega arith)
with_head p k (x ∷ y ∷ t) (Some l) h i e b =
    let rest = between_to_end (x ∷ y ∷ t) 2 (length (x ∷ y ∷ t)) (omega arith) in
    subst (λ z. Shape p z l) (λ j. i j ∷ sym e j ∷ rest j) (body_in p k _ l b)
with_head p k (x ∷ y ∷ t) None h i e b =
    let rest = between_to_end (x ∷ y ∷ t) 2 (length (x ∷ y ∷ t)) (omega arith) in
    (refl, λ l w. b l (body_out p k _ l (subst (λ z. Shape p z l) (λ j. sym i j ∷ e j ∷ sym rest j) w)))

-- what is no system's name with its numbers is the body of no system's line
pub no_system : (p : ℕ) (t : List ℕ) → ((s : Name) (m r g : Field) → Named p t s (m ∷ r ∷ g ∷ []) → AllByRecursion (IsNumber Counts) (m ∷ r ∷ g ∷ []) → ⊥) → (l : Line) → Body 83 p t l → ⊥
no_system p t n (System s m r g) h =
    n s m.field r.field g.field h.1 ((m.value, m.denotes), ((r.value, r.denotes), ((g.value, g.denotes), tt)))
no_system p t n (Width w) h = omega (arith, h.0)
no_system p t n (Put x y) h = omega (arith, h.0)
no_system p t n (Take x y) h = omega (arith, h.0)
no_system p t n Check h = h
no_system p t n (Load x y) h = omega (arith, h.0)
