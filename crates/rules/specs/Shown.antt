-- How calls, answers and standings are printed for a reader, with decimal numbers.
use Rattle.std.specs.Prelude.{ℕ, List, ◌++◌, ℤ, codes, decimal}
use Rattle.std.specs.Fmt.{signed_decimal}
use Rattle.refusals.specs.Refusal.{number_of, word_of}
use Rattle.digits.specs.Verdicts.{verdict_text}
use Rattle.rules.specs.declared.calls.Standing.{Standing}
use Rattle.rules.specs.declared.calls.Standing.TheVariants as standing
use Rattle.rules.specs.declared.calls.Call.{Call}
use Rattle.rules.specs.declared.calls.Call.TheVariants as call
use Rattle.rules.specs.declared.calls.Answer.{Answer}
use Rattle.rules.specs.declared.calls.Answer.TheVariants as answer
use Rattle.rules.specs.declared.calls.Event.{Event}

abbrev pub standing_text : Standing → List ℕ
standing_text standing.Draft = codes "draft"
standing_text standing.Cleared = codes "cleared"
standing_text standing.Barred = codes "barred"
standing_text standing.Running = codes "running"

-- two numbers with a comma between them
abbrev pub pair_text : ℤ → ℤ → List ℕ
pair_text x y = signed_decimal x ++ codes "," ++ signed_decimal y

abbrev pub call_text : Call → List ℕ
call_text (call.Width places) = codes "width " ++ decimal places
call_text (call.Put x y) = codes "put " ++ pair_text x y
call_text (call.Take x y) = codes "take " ++ pair_text x y
call_text call.Check = codes "check"
call_text (call.Load z) = codes "load " ++ pair_text z.x z.y
call_text call.Tick = codes "tick"
call_text call.Abandon = codes "abandon"

abbrev pub answer_text : Answer → List ℕ
answer_text (answer.Classes number) = decimal number ++ codes " classes"
answer_text (answer.Held number) = decimal number ++ codes " held"
answer_text (answer.Judged verdict) = verdict_text verdict
answer_text answer.Loaded = codes "loaded"
answer_text (answer.Digit digit) = codes "digit " ++ pair_text digit.x digit.y
answer_text answer.Abandoned = codes "abandoned"
answer_text (answer.Refused refusal) = codes "refused " ++ decimal (number_of refusal) ++ codes " " ++ word_of refusal

abbrev pub event_text : Event → List ℕ
event_text event = call_text event.call ++ codes ": " ++ answer_text event.answer ++ codes "; " ++ standing_text event.standing
