-- The shapes of a sheet's lines.
use Rattle.std.specs.Prelude.{◌≡◌, ℕ, ◌+◌, List, [], ◌∷◌, ◌++◌, length, codes}
use Rattle.std.specs.List.{AllByRecursion}
use Rattle.sheet.specs.declared.field.Field.{Field}
use Rattle.sheet.specs.declared.line.System.{System}
use Rattle.sheet.specs.declared.line.System.TheVariants.{Kp, Km, G5}
use Rattle.sheet.specs.declared.line.Line.{Line}
use Rattle.sheet.specs.declared.line.Line.TheVariants as line
use Rattle.sheet.specs.Parting.{bytes, Placed}

-- the bytes of fields parted by commas
abbrev pub joined : List Field → List ℕ
joined [] = []
joined (f ∷ []) = bytes f
joined (f ∷ g ∷ fs) = bytes f ++ (44 ∷ joined (g ∷ fs))

-- the bytes s at place p are the fields fs
abbrev pub Parts : ℕ → List ℕ → List Field → Type 0
Parts p s fs = (s ≡ joined fs) × Placed p fs

-- of numbers that bytes denote
module _ {N : Type 0} (denotes : List ℕ → N → Type 0) where
  -- a field is a number
  abbrev pub IsNumber : Field → Type 0
  IsNumber f = (x : N) × denotes (bytes f) x

  -- the bytes s at place p are the number fields fs
  abbrev pub Numbers : ℕ → List ℕ → List Field → Type 0
  Numbers p s fs = Parts p s fs × AllByRecursion IsNumber fs

-- the name of a system
abbrev pub name_of : System → List ℕ
name_of Kp = codes "kp"
name_of Km = codes "km"
name_of G5 = codes "g5"

-- what stands before the number fields of a line
abbrev pub head_of : Line → List ℕ
head_of (line.System s m r g) = codes "S," ++ name_of s ++ codes ","
head_of (line.Width w) = codes "W,"
head_of (line.Put x y) = codes "D,"
head_of (line.Take x y) = codes "X,"
head_of line.Check = codes "C"
head_of (line.Load x y) = codes "Z,"

-- the number fields of a line: each denotes its number, with no minus in the line of a system or a width
abbrev pub fields_of : Line → List Field
fields_of (line.System s m r g) = m.field ∷ r.field ∷ g.field ∷ []
fields_of (line.Width w) = w.field ∷ []
fields_of (line.Put x y) = x.field ∷ y.field ∷ []
fields_of (line.Take x y) = x.field ∷ y.field ∷ []
fields_of line.Check = []
fields_of (line.Load x y) = x.field ∷ y.field ∷ []

-- the bytes s at place p are the line l
abbrev pub Shape : ℕ → List ℕ → Line → Type 0
Shape p s l = (t : List ℕ) × (s ≡ head_of l ++ t) × Parts (p + length (head_of l)) t (fields_of l)

-- the parts of a line between its commas
abbrev pub parts_of : Line → List (List ℕ)
parts_of (line.System s m r g) =
    codes "S" ∷ name_of s ∷ bytes m.field ∷ bytes r.field ∷ bytes g.field ∷ []
parts_of (line.Width w) = codes "W" ∷ bytes w.field ∷ []
parts_of (line.Put x y) = codes "D" ∷ bytes x.field ∷ bytes y.field ∷ []
parts_of (line.Take x y) = codes "X" ∷ bytes x.field ∷ bytes y.field ∷ []
parts_of line.Check = codes "C" ∷ []
parts_of (line.Load x y) = codes "Z" ∷ bytes x.field ∷ bytes y.field ∷ []

-- the same bytes are no two different lines
abbrev pub OneShape : Type 0
OneShape =
    (p q : ℕ) (s : List ℕ) (k l : Line) → Shape p s k → Shape q s l → parts_of k ≡ parts_of l

-- the bytes t at place p are the name of a system, a comma and the fields fs
abbrev pub Named : ℕ → List ℕ → System → List Field → Type 0
Named p t s fs = (u : List ℕ) × (t ≡ name_of s ++ (44 ∷ u)) × Parts (p + 3) u fs

-- the bytes t at place p, behind the letter k and a comma, are those of the line l
abbrev pub Body : ℕ → ℕ → List ℕ → Line → Type 0
Body k p t (line.System s m r g) = (k ≡ 83) × Named p t s (m.field ∷ r.field ∷ g.field ∷ [])
Body k p t (line.Width w) = (k ≡ 87) × Parts p t (w.field ∷ [])
Body k p t (line.Put x y) = (k ≡ 68) × Parts p t (x.field ∷ y.field ∷ [])
Body k p t (line.Take x y) = (k ≡ 88) × Parts p t (x.field ∷ y.field ∷ [])
Body k p t line.Check = ⊥
Body k p t (line.Load x y) = (k ≡ 90) × Parts p t (x.field ∷ y.field ∷ [])
