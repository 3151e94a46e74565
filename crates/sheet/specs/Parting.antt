-- How a sheet is cut into lines, and a line into fields.
use Rattle.std.specs.Prelude.{◌≡◌, ℕ, ◌+◌, ◌^◌, ◌<◌, List, [], ◌∷◌, ◌++◌, length, Some, None, Option, Ok, Err, Result, ◌≢◌, slice_index}
use Rattle.refusals.specs.declared.Refusal.{Refusal}
use Rattle.refusals.specs.declared.Refusal.TheVariants as refusal
use Rattle.sheet.specs.declared.field.Field.{Field}

abbrev pub bytes : Field → List ℕ
bytes f = f.text.now

-- f ends at a place that can be told
abbrev pub Within : Field → Type 0
Within f = f.place + length (bytes f) < 2 ^ 64

-- the byte b does not stand in s
abbrev pub Free : ℕ → List ℕ → Type 0
Free b s = (k : ℕ) → k < length s → slice_index s k ≢ b

-- a stands before the first b of f, and rest behind it
pub record Split (b : ℕ) (f a rest : Field) : Type 0 where
  pub whole : bytes f ≡ bytes a ++ (b ∷ bytes rest)
  pub first : Free b (bytes a)
  pub here : a.place ≡ f.place
  pub next : rest.place ≡ f.place + (length (bytes a) + 1)
  pub ends : rest.place + length (bytes rest) ≡ f.place + length (bytes f)

-- what is cut from f: a line that byte 10 ends, with what is behind it, or nothing; a last line that no byte ends is refused
abbrev pub Cuts : Field → Result (Option (Field × Field)) Refusal → Type 0
Cuts f (Ok (Some q)) = Split 10 f q.0 q.1
Cuts f (Ok None) = bytes f ≡ []
Cuts f (Err why) = (why ≡ refusal.Line) × (bytes f ≢ []) × Free 10 (bytes f)

-- the lines that are cut from f one behind the other, and what is left
abbrev pub Lines : Field → List Field → Field → Type 0
Lines f [] left = (bytes f ≡ bytes left) × (f.place ≡ left.place)
Lines f (line ∷ lines) left = (rest : Field) × Split 10 f line rest × Lines rest lines left

-- lines with the bytes that end them
abbrev pub ended : List Field → List ℕ
ended [] = []
ended (line ∷ lines) = bytes line ++ (10 ∷ ended lines)

-- fields that stand one behind the other from place p on, with one byte between them
abbrev pub Placed : ℕ → List Field → Type 0
Placed p [] = Unit {0}
Placed p (f ∷ fs) = (f.place ≡ p) × Placed (p + (length (bytes f) + 1)) fs

-- the lines and what is left are the sheet, each at its place
abbrev pub LinesAreTheSheet : Type 0
LinesAreTheSheet =
    (f : Field) (lines : List Field) (left : Field) → Lines f lines left → (bytes f ≡ ended lines ++ bytes left) × Placed f.place lines × (left.place ≡ f.place + length (ended lines))
