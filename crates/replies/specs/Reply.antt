-- The line of a listing that replies to a call.
use Rattle.std.specs.Prelude.{ℕ, ◌^◌, ◌<◌, List, [], Some, None, Option}
use Rattle.digits.specs.declared.verdict.Verdict.{Verdict}
use Rattle.digits.specs.declared.verdict.Verdict.TheVariants as verdict
use Rattle.rules.specs.declared.calls.Answer.{Answer}
use Rattle.rules.specs.declared.calls.Answer.TheVariants as answer
use Rattle.rules.specs.declared.calls.Call.{Call}
use Rattle.rules.specs.declared.calls.Call.TheVariants as call
use Rattle.listing.specs.Lines.{width_line, put_line, take_line, cleared_line, barred_line, load_line, tick_line, refusal_line, text_of}
use Rattle.listing.specs.declared.Line.{Line}

-- the line for how many digits are held, after a put or a take
abbrev pub held_line : Call → ℕ → List ℕ
held_line (call.Put x y) n = put_line n
held_line (call.Take x y) n = take_line n
held_line _ n = []

abbrev pub verdict_line : Verdict → List ℕ
verdict_line verdict.Cleared = cleared_line
verdict_line (verdict.Barred first lead period) = barred_line first.x first.y lead period

-- the line for the answer to a call that line i of the sheet asks for
abbrev pub answer_line : ℕ → Call → Answer → List ℕ
answer_line i c (answer.Classes n) = width_line n
answer_line i c (answer.Held n) = held_line c n
answer_line i c (answer.Judged v) = verdict_line v
answer_line i c answer.Loaded = load_line
answer_line i c (answer.Digit d) = tick_line d.x d.y
answer_line i c answer.Abandoned = []
answer_line i c (answer.Refused why) = refusal_line why i

-- the bytes of a line, and none of no line
abbrev pub text_of_reply : Option Line → List ℕ
text_of_reply (Some l) = text_of l
text_of_reply None = []

-- the number of digits held that an answer tells is a number of 32 bits
abbrev pub Counted : Answer → Type 0
Counted (answer.Held n) = n < 2 ^ 32
Counted _ = Unit {0}
