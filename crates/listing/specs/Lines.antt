-- The lines of a listing, and what a call answers that writes one.
use Rattle.std.specs.Prelude.{◌≡◌, ℕ, ◌<◌, ◌≤◌, List, [], ◌∷◌, ◌++◌, length, drop, ℤ, pos, codes, Result, MatchResult}
use Rattle.refusals.specs.declared.Refusal.{Refusal}
use Rattle.refusals.specs.declared.Refusal.TheVariants.{Narrow}
use Rattle.refusals.specs.Refusal.{number_of}
use Rattle.numerals.specs.Numeral.{written}
use Rattle.listing.specs.declared.Line.{Line}
use Rattle.listing.specs.declared.Line.TheVariants as line

-- the fewest bytes of a buffer that a line is written into
abbrev pub room : ℕ
room = 80

-- numbers, each behind a comma
abbrev pub fields : List ℤ → List ℕ
fields [] = []
fields (x ∷ xs) = (44 ∷ written x) ++ fields xs

-- a head, the numbers, and the byte that ends a line
abbrev pub line_of : List ℕ → List ℤ → List ℕ
line_of head xs = head ++ fields xs ++ (10 ∷ [])

abbrev pub system_line : ℕ → List ℕ
system_line p = line_of (codes "S") (pos p ∷ [])

abbrev pub width_line : ℕ → List ℕ
width_line classes = line_of (codes "W") (pos classes ∷ [])

abbrev pub put_line : ℕ → List ℕ
put_line held = line_of (codes "D") (pos held ∷ [])

abbrev pub take_line : ℕ → List ℕ
take_line held = line_of (codes "X") (pos held ∷ [])

abbrev pub cleared_line : List ℕ
cleared_line = line_of (codes "C,cleared") []

abbrev pub barred_line : ℤ → ℤ → ℕ → ℕ → List ℕ
barred_line x y lead period = line_of (codes "C,barred") (x ∷ y ∷ pos lead ∷ pos period ∷ [])

abbrev pub load_line : List ℕ
load_line = line_of (codes "Z") []

abbrev pub tick_line : ℤ → ℤ → List ℕ
tick_line x y = line_of (codes "T") (x ∷ y ∷ [])

abbrev pub run_line : ℕ → ℕ → List ℕ
run_line ticks total = line_of (codes "L") (pos ticks ∷ pos total ∷ [])

abbrev pub refusal_line : Refusal → ℕ → List ℕ
refusal_line why line = line_of (codes "N") (pos (number_of why) ∷ pos line ∷ [])

-- the bytes of a line
abbrev pub text_of : Line → List ℕ
text_of (line.System p) = system_line p
text_of (line.Width classes) = width_line classes
text_of (line.Put held) = put_line held
text_of (line.Take held) = take_line held
text_of line.Cleared = cleared_line
text_of (line.Barred x y lead period) = barred_line x y lead period
text_of line.Load = load_line
text_of (line.Tick x y) = tick_line x y
text_of (line.Run ticks total) = run_line ticks total
text_of (line.Refused why number) = refusal_line why number

-- r answers a call that finds a buffer before and leaves it after: the line stands in front, its length is answered, and the rest is as it was; or the buffer is too short, and is as it was
abbrev pub Printed : Result ℕ Refusal → List ℕ → List ℕ → List ℕ → Type 0
Printed r before after line =
    MatchResult r (λ n. (room ≤ length before) × (n ≡ length line) × (after ≡ line ++ drop n before)) (λ why. (why ≡ Narrow) × (length before < room) × (after ≡ before))
