use Rattle.std.proofs.Common.{◌≡◌, ℕ, List, None, Some, Option, Err, Result, sym, subst, refl, inl, inr, MatchOption, MatchResult, rules}
use Rattle.std.specs.Option.{option_flatten}
use Rattle.std.specs.Result.{result_ok}
use Rattle.refusals.specs.declared.Refusal.TheVariants as refusal
use Rattle.listing.specs.declared.Line.{Line}
use Rattle.listing.specs.declared.Line.TheVariants as line
use Rattle.listing.specs.Lines.{text_of}
use Rattle.sheet.specs.declared.field.Field.{Field}
use Rattle.sheet.specs.declared.line.System.{System}
use Rattle.replies.specs.Asked.{Chosen}
use Rattle.replies.specs.declared.asking.Choice.{Choice}
use Rattle.transcript.specs.declared.following.Rest.{Rest}
use Rattle.transcript.specs.Serving.{Opened}
use Rattle.transcript.specs.Transcript.{Listing}
use Rattle.transcript.proofs.Progress.{first_split, first_free}
use Rattle.transcript.proofs.opening.first_line.Goals as goal

-- what the line f is told to choose
abbrev Told : Field → Option Choice → Type 0
Told f o = MatchOption o ((s : System) (m r g : ℕ) → ¬ (Chosen f s m r g)) (λ q. Chosen f q.system q.modulus q.root q.start)

-- what is told of the first line of the sheet
abbrev Opens : List ℕ → Result (Choice × Rest) Line → Type 0
Opens sheet r = MatchResult r (λ q. Opened sheet q.0 q.1.lines) (λ l. Listing sheet (text_of l))

pub returns-in_err-line : goal.returns-in_err-line
returns-in_err-line c =
    let none : option_flatten (result_ok c.next_line.result) ≡ None = search rules in
    let err : c.from_residual.result ≡ Err (line.Refused refusal.Line 1) = search rules in
    let listing : Listing c.args.sheet.now (text_of (line.Refused refusal.Line 1)) = inr (c.if-sheet-gt-LONGEST.false, (c.whole.result, c.whole.ensures.0, c.whole.ensures.1, inl (first_free c.whole.result c.next_line.result c.next_line.ensures none, refl))) in
    subst (Opens c.args.sheet.now) (sym err) listing

pub returns-in_err-choice : goal.returns-in_err-choice
returns-in_err-choice c =
    let first : option_flatten (result_ok c.next_line.result) ≡ Some (c.in_ok-line.line, c.in_ok-line.lines) = search rules in
    let split = first_split c.whole.result c.in_ok-line.line c.in_ok-line.lines c.next_line.result c.next_line.ensures first in
    let none : c.chosen.result ≡ None = search rules in
    let err : c.from_residual-in_err-choice.result ≡ Err (line.Refused refusal.Line 1) = search rules in
    let listing : Listing c.args.sheet.now (text_of (line.Refused refusal.Line 1)) = inr (c.if-sheet-gt-LONGEST.false, (c.whole.result, c.whole.ensures.0, c.whole.ensures.1, inr (c.in_ok-line.line, (c.in_ok-line.lines, split, inl (subst (Told c.in_ok-line.line) none c.chosen.ensures, refl))))) in
    subst (Opens c.args.sheet.now) (sym err) listing

pub returns : goal.returns
returns c =
    let first : option_flatten (result_ok c.next_line.result) ≡ Some (c.in_ok-line.line, c.in_ok-line.lines) = search rules in
    let some : c.chosen.result ≡ Some c.in_ok-choice.choice = search rules in
    record {
      whole = c.whole.result;
      is = c.whole.ensures.0;
      front = c.whole.ensures.1;
      fits = c.if-sheet-gt-LONGEST.false;
      line = c.in_ok-line.line;
      split = first_split c.whole.result c.in_ok-line.line c.in_ok-line.lines c.next_line.result c.next_line.ensures first;
      chosen = subst (Told c.in_ok-line.line) some c.chosen.ensures;
    }
