-- What a line asks for: no other line has its bytes.
use Rattle.std.proofs.Common.{◌≡◌, ℕ, Bool, true, false, eqb, List, [], ◌∷◌, get_or, Some, None, Option, Ok, Err, Result, sym, refl, ap, ◌∙◌, subst, MatchOption, MatchResult}
use Rattle.std.specs.Result.{result_ok}
use Rattle.std.proofs.lemmas.Bool.{false≢true, true≢false}
use Rattle.std.proofs.lemmas.Option.{none-some}
use Rattle.refusals.specs.declared.Refusal.{Refusal}
use Rattle.refusals.specs.declared.Refusal.TheVariants as refusal
use Rattle.rules.specs.declared.calls.Call.{Call}
use Rattle.sheet.specs.Parting.{bytes}
use Rattle.sheet.specs.Shape.{Shape, parts_of}
use Rattle.sheet.specs.declared.field.Field.{Field}
use Rattle.sheet.specs.declared.line.System.{System}
use Rattle.sheet.specs.declared.line.Line.{Line}
use Rattle.sheet.specs.declared.line.Line.TheVariants as line
use Rattle.sheet.proofs.Unique.{one_shape}
use Rattle.replies.specs.Asked.{Calls, Asks, Chooses, Chosen}
use Rattle.replies.specs.declared.asking.Choice.{Choice}

-- the first byte of the first part of a line
abbrev letter : List (List ℕ) → ℕ
letter [] = 0
letter (p ∷ ps) = get_or p 0 0

abbrev is_system : Line → Bool
is_system l = eqb (letter (parts_of l)) 83

same_kind : (p : ℕ) (s : List ℕ) (k l : Line) → Shape p s k → Shape p s l → is_system k ≡ is_system l
same_kind p s k l a b = ap (λ ps. eqb (letter ps) 83) (one_shape p p s k l a b)

no_call : (l : Line) → is_system l ≡ true → (c : Call) → ¬ (Calls l c)
no_call (line.System s m r g) h c x = x
no_call (line.Width w) h c x = false≢true h
no_call (line.Put a b) h c x = false≢true h
no_call (line.Take a b) h c x = false≢true h
no_call line.Check h c x = false≢true h
no_call (line.Load a b) h c x = false≢true h

no_choice : (l : Line) → is_system l ≡ false → (t : System) (m r g : ℕ) → ¬ (Chooses l t m r g)
no_choice (line.System s a b c) h t m r g x = true≢false h
no_choice (line.Width w) h t m r g x = x
no_choice (line.Put a b) h t m r g x = x
no_choice (line.Take a b) h t m r g x = x
no_choice line.Check h t m r g x = x
no_choice (line.Load a b) h t m r g x = x

-- a line of which no call is asked is a system's
none_asked : (l : Line) → ((c : Call) → ¬ (Calls l c)) → is_system l ≡ true
none_asked (line.System s m r g) n = refl
none_asked (line.Width w) n = absurd (n _ refl)
none_asked (line.Put a b) n = absurd (n _ refl)
none_asked (line.Take a b) n = absurd (n _ refl)
none_asked line.Check n = absurd (n _ refl)
none_asked (line.Load a b) n = absurd (n _ refl)

-- and one that chooses nothing is not
none_chosen : (l : Line) → ((t : System) (m r g : ℕ) → ¬ (Chooses l t m r g)) → is_system l ≡ false
none_chosen (line.System s a b c) n = absurd (n _ _ _ _ (refl, refl, refl, refl))
none_chosen (line.Width w) n = refl
none_chosen (line.Put a b) n = refl
none_chosen (line.Take a b) n = refl
none_chosen line.Check n = refl
none_chosen (line.Load a b) n = refl

-- what a line is read as
abbrev Read : Field → Result Line Refusal → Type 0
Read f r = MatchResult r (λ l. Shape f.place (bytes f) l) (λ e. (e ≡ refusal.Line) × ((l : Line) → Shape f.place (bytes f) l → ⊥))

read_as : (f : Field) (r : Result Line Refusal) (l : Line) → Read f r → Some l ≡ result_ok r → Shape f.place (bytes f) l
read_as f (Ok k) l h e = subst (λ z. Shape f.place (bytes f) z) (let same : k ≡ l = cc in same) h
read_as f (Err why) l h e = absurd (none-some l (sym e))

pub read_as_none : (f : Field) (r : Result Line Refusal) → Read f r → None ≡ result_ok r → (l : Line) → Shape f.place (bytes f) l → ⊥
read_as_none f (Ok k) h e = absurd (none-some k e)
read_as_none f (Err why) h e = h.1

module _ (f : Field) (r : Result Line Refusal) (l : Line) (read : Read f r) (is : Some l ≡ result_ok r) where
  shape : Shape f.place (bytes f) l
  shape = read_as f r l read is

  -- what the line that was read asks for is what the field asks for
  pub asked_by : (o : Option Call) → MatchOption o ((c : Call) → ¬ (Calls l c)) (λ c. Calls l c) → MatchOption o ((c : Call) → ¬ (Asks f c)) (λ c. Asks f c)
  asked_by (Some c) x = (l, shape, x)
  asked_by None x = λ c q. no_call q.0 (same_kind f.place (bytes f) q.0 l q.1 shape ∙ none_asked l x) c q.2

  pub chosen_by : (o : Option Choice) → MatchOption o ((t : System) (m r g : ℕ) → ¬ (Chooses l t m r g)) (λ q. Chooses l q.system q.modulus q.root q.start) → MatchOption o ((t : System) (m r g : ℕ) → ¬ (Chosen f t m r g)) (λ q. Chosen f q.system q.modulus q.root q.start)
  chosen_by (Some q) x = (l, shape, x)
  chosen_by None x = λ t m r g q.
      no_choice q.0 (same_kind f.place (bytes f) q.0 l q.1 shape ∙ none_chosen l x) t m r g q.2
