-- One digit fed into an engine: the total is the weighted sum of one digit more, acting on the start point.
use Rattle.std.proofs.Common.{◌≡◌, ℕ, ◌+◌, List, [], ◌∷◌, ◌++◌, length, sym, ap, ◌∙◌, add-one}
use Rattle.ring.specs.Elem.{Elem, add}
use Rattle.ring.specs.System.{System, mul, pow}
use Rattle.ring.specs.Expansion.{weighted}
use Rattle.ring.proofs.Sums.{weighted_push}
use Rattle.engine.specs.Meaning.{Meaning, LawfulMeaning, act}
use Rattle.engine.specs.Rings.{Over}
use Rattle.engine.proofs.Acting.{step_law}

module _ {C : Type 0} (m : Meaning C) (law : LawfulMeaning m) (s : System) (over : Over s m) (ds : List Elem) (k : ℕ) (long : length ds ≡ k) (total current : C)
    (t : total ≡ act m (weighted s ds) m.start) (u : current ≡ act m (pow s s.β k) m.start) where
  pub fed_total : (d : Elem) → m.sum total (act m d current) ≡ act m (weighted s (ds ++ d ∷ [])) m.start
  fed_total d =
      (step_law m law s over (weighted s ds) (pow s s.β k) total current t u d s.β).added
      ∙ ap (λ w. act m w m.start) (sym (weighted_push s ds d ∙ ap (λ j. add (weighted s ds) (mul s d (pow s s.β j))) long))

  pub fed_current : act m s.β current ≡ act m (pow s s.β (k + 1)) m.start
  fed_current =
      (step_law m law s over (weighted s ds) (pow s s.β k) total current t u s.β s.β).shifted
      ∙ ap (λ j. act m (pow s s.β j) m.start) (sym (add-one k))
