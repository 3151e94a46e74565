-- The refusals: each has one number and one word.
use Rattle.std.specs.Prelude.{ℕ, List, codes}
use Rattle.refusals.specs.declared.Refusal.{Refusal}
use Rattle.refusals.specs.declared.Refusal.TheVariants.{Busy, Width, Range, Even, Doubled, Absent, Open, Uncleared, Ring, Long, Idle, Modulus, Root, Line, Sheet, Narrow}

abbrev pub number_of : Refusal → ℕ
number_of Busy = 1
number_of Width = 2
number_of Range = 3
number_of Even = 4
number_of Doubled = 5
number_of Absent = 6
number_of Open = 7
number_of Uncleared = 8
number_of Ring = 9
number_of Long = 10
number_of Idle = 11
number_of Modulus = 12
number_of Root = 13
number_of Line = 14
number_of Sheet = 15
number_of Narrow = 16

-- the bytes of the word
abbrev pub word_of : Refusal → List ℕ
word_of Busy = codes "busy"
word_of Width = codes "width"
word_of Range = codes "range"
word_of Even = codes "even"
word_of Doubled = codes "doubled"
word_of Absent = codes "absent"
word_of Open = codes "open"
word_of Uncleared = codes "uncleared"
word_of Ring = codes "ring"
word_of Long = codes "long"
word_of Idle = codes "idle"
word_of Modulus = codes "modulus"
word_of Root = codes "root"
word_of Line = codes "line"
word_of Sheet = codes "sheet"
word_of Narrow = codes "narrow"
