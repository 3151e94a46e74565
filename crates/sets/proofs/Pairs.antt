-- What holds of any two elements of a list, by their places, as the list grows and shrinks.
use Rattle.std.proofs.Common.{◌≡◌, ℕ, ◌+◌, ◌<◌, List, [], ◌∷◌, ◌++◌, length, get_or, sym, subst₂, ⊎_elim, arith}
use Rattle.std.specs.List.{remove}
use Rattle.std.proofs.lemmas.List.{get_or_append_left, get_or_push, length_push}
use Rattle.std.proofs.lemmas.List.Edits.{length-remove, get_or-remove_below, get_or-remove_above}
use Rattle.std.proofs.lemmas.Bool.{cases_lt}
use Rattle.ring.specs.Elem.{Elem, 𝟘}

module _ (R : Elem → Elem → Type 0) where
  -- R holds of any two, the earlier first
  abbrev pub Any2 : List Elem → Type 0
  Any2 ds = (i j : ℕ) → i < j → j < length ds → R (get_or ds i 𝟘) (get_or ds j 𝟘)

  pub any2_push : (ds : List Elem) (z : Elem) → Any2 ds → ((k : ℕ) → k < length ds → R (get_or ds k 𝟘) z) → Any2 (ds ++ z ∷ [])
  any2_push ds z h f i j l m =
      let n = length_push ds z in
      let low : get_or (ds ++ z ∷ []) i 𝟘 ≡ get_or ds i 𝟘 = get_or_append_left ds (z ∷ []) 𝟘 i (omega arith) in
      ⊎_elim
      (λ b. subst₂ R (sym low) (sym (get_or_append_left ds (z ∷ []) 𝟘 j b)) (h i j l b))
      (λ b. subst₂ R (sym low) (sym (get_or_push ds z 𝟘 j (omega arith))) (f i (omega arith)))
      (cases_lt j (length ds))

  pub any2_removed : (ds : List Elem) (k : ℕ) → k < length ds → Any2 ds → Any2 (remove ds k)
  any2_removed ds k o h i j l m =
      let n = length-remove ds k o in
      ⊎_elim
      (λ b. ⊎_elim
      (λ a. subst₂ R (sym (get_or-remove_below ds k 𝟘 i a o)) (sym (get_or-remove_below ds k 𝟘 j b o)) (h i j l (omega arith)))
      (λ a. absurd (omega arith))
      (cases_lt i k))
      (λ b. ⊎_elim
      (λ a. subst₂ R (sym (get_or-remove_below ds k 𝟘 i a o)) (sym (get_or-remove_above ds k 𝟘 j b o)) (h i (j + 1) (omega arith) (omega arith)))
      (λ a. subst₂ R (sym (get_or-remove_above ds k 𝟘 i a o)) (sym (get_or-remove_above ds k 𝟘 j b o)) (h (i + 1) (j + 1) (omega arith) (omega arith)))
      (cases_lt i k))
      (cases_lt j k)
