use Rattle.std.proofs.Common.{◌≡◌, ℕ, List, [], ◌++◌, Some, None, Option, sym, ap, ◌∙◌, subst}
use Rattle.std.specs.Prelude.{IfOk, IfSome, IsSomeAnd, ok_or, option_map, vec_items}
use Rattle.std.specs.Result.{result_ok}
use Rattle.transcript.specs.Transcript.{Listing}
use Rattle.transcript.proofs.opening.listing_of.Goals as goal

-- bytes that a sink holds, which held none before it was given the text
whole : {V E : Type 0} (items : V → List ℕ) (why : E) (sheet text : List ℕ) (before : Option (List ℕ)) (after : Option V) → Listing sheet text → before ≡ Some [] →
    IfSome (option_map items after) (λ t. IsSomeAnd before (λ s. t ≡ s ++ text)) → IfOk (ok_or after why) (λ v. Listing sheet (items v))
whole items why sheet text before None l e g = tt
whole items why sheet text None (Some v) l e g = absurd g
whole items why sheet text (Some s) (Some v) l e g =
    let none : s ≡ [] = cc in
    subst (Listing sheet) (sym (g ∙ ap (λ t. t ++ text) none)) l

pub returns : goal.returns
returns c =
    let t = c.transcribe.ensures in
    subst (λ r. IfOk r (λ v. Listing c.args.sheet.now (vec_items v))) (sym c.into_bytes.ensures) (whole vec_items _ c.args.sheet.now t.0 _ (result_ok c.transcribe.new.out.bytes) t.1 c.new-listing.ensures t.2)
