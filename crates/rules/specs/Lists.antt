-- Lists of elements as sets: what is in one, whether one stands twice, how many a set has.
use Rattle.std.specs.Prelude.{◌≡◌, ℕ, Bool, true, false, cond, not, ◌&&◌, List, [], ◌∷◌, length, ℤ, pos, negsuc, ◌==◌}
use Rattle.ring.specs.Elem.{Elem}

abbrev pub eq_z : ℤ → ℤ → Bool
eq_z (pos a) (pos b) = a == b
eq_z (pos a) (negsuc b) = false
eq_z (negsuc a) (pos b) = false
eq_z (negsuc a) (negsuc b) = a == b

-- whether two elements are the same
abbrev pub alike : Elem → Elem → Bool
alike a b = eq_z a.x b.x && eq_z a.y b.y

-- whether d is in the list
abbrev pub has : List Elem → Elem → Bool
has [] d = false
has (x ∷ xs) d = cond (alike x d) true (has xs d)

-- whether no element stands twice
abbrev pub distinct : List Elem → Bool
distinct [] = true
distinct (x ∷ xs) = not (has xs x) && distinct xs

-- the list without d
abbrev pub without : List Elem → Elem → List Elem
without [] d = []
without (x ∷ xs) d = cond (alike x d) xs (x ∷ without xs d)

-- the set D has k elements
abbrev pub Number : (Elem → Bool) → ℕ → Type 0
Number D k = (ds : List Elem) × (distinct ds ≡ true) × ((d : Elem) → has ds d ≡ D d) × (k ≡ length ds)
