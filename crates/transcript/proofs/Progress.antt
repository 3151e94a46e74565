-- How far a sheet has been answered.
use Rattle.std.specs.Option.{option_flatten}
use Rattle.std.specs.Result.{result_ok}
use Rattle.std.proofs.Common.{◌≡◌, ℕ, ◌+◌, List, [], ◌∷◌, ◌++◌, length, Some, None, Option, Ok, Err, Result, sym, refl, ap, subst, append_assoc, arith, length-append}
use Rattle.engine.specs.Meaning.{Meaning}
use Rattle.engine.specs.declared.Point.{Point}
use Rattle.refusals.specs.declared.Refusal.TheVariants as refusal
use Rattle.rules.specs.Views.{Setting, View}
use Rattle.rules.specs.History.{History}
use Rattle.rules.specs.Comes.{Comes}
use Rattle.residue.specs.declared.ResidueEngine.{ResidueEngine}
use Rattle.listing.specs.Lines.{refusal_line}
use Rattle.sheet.specs.Parting.{bytes, Free, Split, Cuts, Lines}
use Rattle.sheet.specs.declared.field.Field.{Field}
use Rattle.refusals.specs.declared.Refusal.{Refusal}
use Rattle.residue.specs.Made.{residue_machine, meaning_of}
use Rattle.replies.specs.Sinks.{Given}
use Rattle.transcript.specs.Transcript.{AnsweredLine, Lists, Goes_on}
use Rattle.replies.proofs.Sinks.{given_then, given_none}

-- a line that is cut, and what is behind it
pub cut_split : (f line rest : Field) (c : Option (Field × Field)) → Cuts f (Ok c) → c ≡ Some (line, rest) → Split 10 f line rest
cut_split f line rest c x e = subst (λ o. Cuts f (Ok o)) e x

-- no byte stands in nothing
pub empty_free : (s : List ℕ) → s ≡ [] → Free 10 s
empty_free s x = λ k h e. absurd (let l : length s ≡ 0 = ap length x in omega arith)

-- nothing is left
pub cut_none : (f : Field) (c : Option (Field × Field)) → Cuts f (Ok c) → c ≡ None → bytes f ≡ []
cut_none f c x e = subst (λ o. Cuts f (Ok o)) e x

-- the first line, and what is behind it
pub first_split : (f line rest : Field) (c : Result (Option (Field × Field)) Refusal) → Cuts f c → option_flatten (result_ok c) ≡ Some (line, rest) → Split 10 f line rest
first_split f line rest (Ok (Some q)) x e = let same : q ≡ (line, rest) = cc in subst (λ (p : Field × Field). Split 10 f p.0 p.1) same x
first_split f line rest (Ok None) x e = absurd (let z : ◌≡◌ {A = ℕ} 0 1 = cc in omega arith)
first_split f line rest (Err why) x e = absurd (let z : ◌≡◌ {A = ℕ} 0 1 = cc in omega arith)

-- what is cut where there is no first line
pub first_free : (f : Field) (c : Result (Option (Field × Field)) Refusal) → Cuts f c → option_flatten (result_ok c) ≡ None → Free 10 (bytes f)
first_free f (Ok (Some q)) x e = absurd (let z : ◌≡◌ {A = ℕ} 0 1 = cc in omega arith)
first_free f (Ok None) x e = empty_free (bytes f) x
first_free f (Err why) x e = x.2

pub split_length : (f line rest : Field) → Split 10 f line rest → length (bytes f) ≡ length (bytes line) + (length (bytes rest) + 1)
split_length f line rest s = omega (arith, ap length s.whole, length-append (bytes line) (10 ∷ bytes rest))

module _ (k : Setting) (m : Meaning Point) where
  pub lists_ended : (i : ℕ) (left : List ℕ) (h : History) → left ≡ [] → Lists k m i [] left h []
  lists_ended i [] h e = refl
  lists_ended i (b ∷ bs) h e = absurd (let z : ◌≡◌ {A = ℕ} 0 1 = cc in omega arith)

  pub lists_broken : (i : ℕ) (left : List ℕ) (h : History) → (left ≡ [] → ⊥) → Lists k m i [] left h (refusal_line refusal.Line i)
  lists_broken i [] h n = absurd (n refl)
  lists_broken i (b ∷ bs) h n = refl

-- the sheet f has been answered up to the field at, from line 2 up to line i, by the unit w and the sink b
module _ {K : Type 0} (held : K → Option (List ℕ)) (k : Setting) (e : ResidueEngine) (h : History) (f : Field) (a : K) where
  pub record Progress (at : Field) (i : ℕ) (w : View ResidueEngine) (b : K) : Type 0 where
    pub past : History
    pub text : List ℕ
    pub comes : Comes k residue_machine e past w
    pub given : Given held a b text
    pub goes_on : (fs : List Field) (left : Field) (more : List ℕ) → Lines at fs left → Lists k (meaning_of e) i fs (bytes left) past more →
        (gs : List Field) × Lines f gs left × Lists k (meaning_of e) 2 gs (bytes left) h (text ++ more)

  pub progress_none : (w : View ResidueEngine) → Comes k residue_machine e h w → Progress f 2 w a
  progress_none w c = record { past = h; text = []; comes = c; given = given_none held a; goes_on = λ fs left more x y. (fs, x, y) }

  pub progress_more : (at line rest : Field) (i : ℕ) (v w : View ResidueEngine) (b c : K) (p : Progress at i v b) → Split 10 at line rest →
      (g : History) (t : List ℕ) → AnsweredLine k (meaning_of e) i line p.past g t → Comes k residue_machine e g w → Given held b c t → Progress rest (i + 1) w c
  progress_more at line rest i v w b c p split g t answered comes given = record {
    past = g;
    text = p.text ++ t;
    comes = comes;
    given = given_then held a b c p.text t p.given given;
    goes_on = λ fs left more x y.
        let q = p.goes_on (line ∷ fs) left (t ++ more) (rest, split, x) (g, (t, (more, answered, y, refl))) in
        (q.0, q.1, subst (λ u. Lists k (meaning_of e) 2 q.0 (bytes left) h u) (sym (append_assoc p.text t more)) q.2);
  }

  -- at the end of the sheet
  pub progress_end : (at : Field) (i : ℕ) (w : View ResidueEngine) (b c : K) (p : Progress at i w b) → Free 10 (bytes at) →
      (t : List ℕ) → Lists k (meaning_of e) i [] (bytes at) p.past t → Given held b c t →
      (g : History) × ((s : List ℕ) × Goes_on k (meaning_of e) 2 f h s × Comes k residue_machine e g w × Given held a c s)
  progress_end at i w b c p free t ends given =
      let q = p.goes_on [] at t (refl, refl) ends in
      (p.past, (p.text ++ t, (q.0, (at, q.1, free, q.2)), p.comes, given_then held a b c p.text t p.given given))
