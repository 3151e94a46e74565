-- What a line of a sheet asks for.
use Rattle.std.specs.Prelude.{◌≡◌, ℕ}
use Rattle.rules.specs.declared.calls.Call.{Call}
use Rattle.rules.specs.declared.calls.Call.TheVariants as call
use Rattle.sheet.specs.Parting.{bytes}
use Rattle.sheet.specs.Shape.{Shape}
use Rattle.sheet.specs.declared.field.Field.{Field}
use Rattle.sheet.specs.declared.line.System.{System}
use Rattle.sheet.specs.declared.line.Line.{Line}
use Rattle.sheet.specs.declared.line.Line.TheVariants as line

-- the line asks for the call
abbrev pub Calls : Line → Call → Type 0
Calls (line.System s m r g) c = ⊥
Calls (line.Width w) c = c ≡ call.Width w.value
Calls (line.Put x y) c = c ≡ call.Put x.value y.value
Calls (line.Take x y) c = c ≡ call.Take x.value y.value
Calls line.Check c = c ≡ call.Check
Calls (line.Load x y) c = c ≡ call.Load (record { x = x.value; y = y.value })

-- the bytes of f are a line that asks for the call
abbrev pub Asks : Field → Call → Type 0
Asks f c = (l : Line) × Shape f.place (bytes f) l × Calls l c

-- the line asks for the system with its residue engine
abbrev pub Chooses : Line → System → ℕ → ℕ → ℕ → Type 0
Chooses (line.System s a b c) t m r g = (s ≡ t) × (m ≡ a.value) × (r ≡ b.value) × (g ≡ c.value)
Chooses (line.Width w) t m r g = ⊥
Chooses (line.Put x y) t m r g = ⊥
Chooses (line.Take x y) t m r g = ⊥
Chooses line.Check t m r g = ⊥
Chooses (line.Load x y) t m r g = ⊥

-- the bytes of f are a first line: the system t with a residue engine
abbrev pub Chosen : Field → System → ℕ → ℕ → ℕ → Type 0
Chosen f t m r g = (l : Line) × Shape f.place (bytes f) l × Chooses l t m r g
