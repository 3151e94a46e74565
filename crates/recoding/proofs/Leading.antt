-- Steps that lead on, and to 0: then their digits are the expansion.
use Rattle.std.proofs.Common.{◌≡◌, ℕ, zero, suc, ◌+◌, ◌≤◌, ◌≢◌, List, [], ◌∷◌, ◌++◌, drop, set, ℤ, sym, refl, ap, ◌∙◌, subst, arith}
use Rattle.std.specs.List.{ContainsAt as Has}
use Rattle.std.proofs.lemmas.List.{drop-drop, drop-set-lt}
use Rattle.ring.specs.Elem.{Elem, 𝟘}
use Rattle.ring.specs.System.{System, Lawful}
use Rattle.ring.specs.Class.{Even}
use Rattle.ring.specs.Expansion.{Expands}
use Rattle.ring.specs.Trail.{Step}
use Rattle.ring.proofs.Expansions.{nil}
use Rattle.ring.proofs.Steps.{step_expands}
use Rattle.numbers.specs.Meaning.{meaning}
use Rattle.digits.specs.Digits.{elem_of, AllOdd}
use Rattle.recoding.specs.Walk.{digits_of, Leads}
use Rattle.recoding.specs.declared.entry.Entry.{Entry}

module _ {C : Type 0} (value : C → ℤ) (s : System) (w : ℕ) (ds : List Elem) where
  -- one step more
  pub leads_more : (z : Elem) (es : List (Entry C)) (r : Elem) (e : Entry C) → Leads value s w ds z es r → r ≢ 𝟘 → Step s w (Has ds) r (elem_of e.digit) (meaning value e.remainder) → Leads value s w ds z (es ++ e ∷ []) (meaning value e.remainder)
  leads_more z [] r e l n t = (subst (λ u. u ≢ 𝟘) (sym l) n, subst (λ u. Step s w (Has ds) u (elem_of e.digit) (meaning value e.remainder)) (sym l) t, refl)
  leads_more z (f ∷ es) r e l n t = (l.0, l.1, leads_more (meaning value f.remainder) es r e l.2 n t)

pub leads_expands : {C : Type 0} (value : C → ℤ) (s : System) (g : Lawful s) (w : ℕ) → 1 ≤ w → (ds : List Elem) → AllOdd s ds → (z : Elem) (es : List (Entry C)) → Leads value s w ds z es 𝟘 → Expands s w (Has ds) z (digits_of es)
leads_expands value s g zero h ds odd z es l = absurd (omega arith)
leads_expands value s g (suc v) h ds odd z [] l = subst (λ u. Expands s (suc v) (Has ds) u []) (sym l) (nil s g (suc v) (Has ds))
leads_expands value s g (suc v) h ds odd z (e ∷ es) l =
    step_expands s g v (Has ds) (λ d m. subst (λ u. ¬ (Even s u)) (m.2 𝟘) (odd m.0 m.1)) z (elem_of e.digit) (meaning value e.remainder) (digits_of es) l.1
    (leads_expands value s g (suc v) h ds odd (meaning value e.remainder) es l.2) l.0

-- one entry more is written
pub drop_more_set : {X : Type 0} (before xs : List X) (k : ℕ) (e : X) → drop k xs ≡ drop k before → drop (k + 1) (set xs k e) ≡ drop (k + 1) before
drop_more_set before xs k e h = drop-set-lt (k + 1) xs k e (omega arith) ∙ sym (drop-drop 1 k xs) ∙ ap (drop 1) h ∙ drop-drop 1 k before
