-- Lists of elements as sets.
use Rattle.std.proofs.Common.{◌≡◌, ℕ, zero, suc, ◌+◌, ◌-◌, ◌<◌, ◌≤◌, Bool, true, false, cond, not, ◌⊎◌, List, [], ◌∷◌, ◌++◌, length, get_or, take, ℤ, pos, negsuc, sym, refl, ap, ◌∙◌, subst, inl, inr, ⊎_elim, le_of_suc-le-suc, arith}
use Rattle.std.specs.List.{ContainsAt as Has, remove}
use Rattle.std.proofs.ByRecursion.{has_get_or}
use Rattle.std.proofs.lemmas.List.{length-take-le, get_or-take}
use Rattle.std.proofs.lemmas.List.Edits.{length-remove, get_or-remove_below, get_or-remove_above}
use Rattle.std.proofs.lemmas.Bool.{both_ways, eqb-true, eq-eqb, and_parts, and_from, not-true, not_from_false, cases_Bool, cases_lt}
use Rattle.ring.specs.Elem.{Elem, 𝟘}
use Rattle.ring.proofs.Elements.{same}
use Rattle.rules.specs.Lists.{eq_z, alike, has, distinct, without}

-- the test decides whether two elements are the same
eq_z_true : (a b : ℤ) → eq_z a b ≡ true → a ≡ b
eq_z_true (pos a) (pos b) e = ap pos (eqb-true a b e)
eq_z_true (pos a) (negsuc b) e = absurd (both_ways false refl e)
eq_z_true (negsuc a) (pos b) e = absurd (both_ways false refl e)
eq_z_true (negsuc a) (negsuc b) e = ap negsuc (eqb-true a b e)

eq_z_same : (a : ℤ) → eq_z a a ≡ true
eq_z_same (pos a) = eq-eqb a a refl
eq_z_same (negsuc a) = eq-eqb a a refl

pub false_since : (t : Bool) → (t ≡ true → ⊥) → t ≡ false
false_since true f = absurd (f refl)
false_since false f = refl

pub true_since : (t : Bool) → (t ≡ false → ⊥) → t ≡ true
true_since true f = refl
true_since false f = absurd (f refl)

either_true : (a b : Bool) → b ≡ true → cond a true b ≡ true
either_true true b e = refl
either_true false b e = e

true_either : (a b : Bool) → cond a true b ≡ true → (a ≡ true) ⊎ (b ≡ true)
true_either true b e = inl refl
true_either false b e = inr e

pub alike_true : (a b : Elem) → alike a b ≡ true → a ≡ b
alike_true a b e = let p = and_parts (eq_z a.x b.x) (eq_z a.y b.y) e in same a b (eq_z_true a.x b.x p.0) (eq_z_true a.y b.y p.1)

pub alike_same : (a b : Elem) → a ≡ b → alike a b ≡ true
alike_same a b e = subst (λ c. alike a c ≡ true) e (and_from (eq_z a.x a.x) (eq_z a.y a.y) (eq_z_same a.x) (eq_z_same a.y))

pub alike_false : (a b : Elem) → alike a b ≡ false → a ≡ b → ⊥
alike_false a b e q = both_ways (alike a b) e (alike_same a b q)

pub alike_other : (a b : Elem) → (a ≡ b → ⊥) → alike a b ≡ false
alike_other a b f = false_since (alike a b) (λ e. f (alike_true a b e))

pub here : (x : Elem) (xs : List Elem) (d : Elem) → x ≡ d → has (x ∷ xs) d ≡ true
here x xs d e = ap (λ t. cond t true (has xs d)) (alike_same x d e)

pub there : (x : Elem) (xs : List Elem) (d : Elem) → has xs d ≡ true → has (x ∷ xs) d ≡ true
there x xs d e = either_true (alike x d) (has xs d) e

pub where_has : (x : Elem) (xs : List Elem) (d : Elem) → has (x ∷ xs) d ≡ true → (x ≡ d) ⊎ (has xs d ≡ true)
where_has x xs d h = ⊎_elim (λ e. inl (alike_true x d e)) inr (true_either (alike x d) (has xs d) h)

pub has_at : (ds : List Elem) (i : ℕ) → i < length ds → has ds (get_or ds i 𝟘) ≡ true
has_at [] i h = absurd (omega arith)
has_at (x ∷ xs) zero h = here x xs x refl
has_at (x ∷ xs) (suc i) h = there x xs (get_or xs i 𝟘) (has_at xs i (le_of_suc-le-suc h))

pub place : (ds : List Elem) (d : Elem) → has ds d ≡ true → (i : ℕ) × (i < length ds) × (get_or ds i 𝟘 ≡ d)
place [] d h = absurd (both_ways false refl h)
place (x ∷ xs) d h = ⊎_elim (λ e. (0, omega arith, e)) (λ e. let p = place xs d e in let q : p.0 < length xs = p.1 in (suc p.0, omega arith, p.2)) (where_has x xs d h)

pub has_not : (ds : List Elem) (d : Elem) → ((k : ℕ) → k < length ds → get_or ds k 𝟘 ≡ d → ⊥) → has ds d ≡ false
has_not ds d f = false_since (has ds d) (λ h. let p = place ds d h in f p.0 p.1 p.2)

pub has_push : (ds : List Elem) (d x : Elem) → has (ds ++ d ∷ []) x ≡ cond (alike d x) true (has ds x)
has_push [] d x = refl
has_push (y ∷ ys) d x = ap (λ t. cond (alike y x) true t) (has_push ys d x) ∙ swap (alike y x) (alike d x) (has ys x)
  where
    swap : (a b c : Bool) → cond a true (cond b true c) ≡ cond b true (cond a true c)
    swap true true c = refl
    swap true false c = refl
    swap false true c = refl
    swap false false c = refl

pub has_pushed : (ds : List Elem) (d x : Elem) → has (ds ++ d ∷ []) x ≡ true → (d ≡ x) ⊎ (has ds x ≡ true)
has_pushed ds d x h = where_has d ds x (sym (has_push ds d x) ∙ h)

-- no number stands twice
pub head_new : (x : Elem) (xs : List Elem) → distinct (x ∷ xs) ≡ true → has xs x ≡ false
head_new x xs h = not-true (has xs x) (and_parts _ _ h).0

pub tail_once : (x : Elem) (xs : List Elem) → distinct (x ∷ xs) ≡ true → distinct xs ≡ true
tail_once x xs h = (and_parts (not (has xs x)) (distinct xs) h).1

pub once_more : (x : Elem) (xs : List Elem) → has xs x ≡ false → distinct xs ≡ true → distinct (x ∷ xs) ≡ true
once_more x xs n h = and_from (not (has xs x)) (distinct xs) (not_from_false (has xs x) n) h

pub distinct_push : (ds : List Elem) (d : Elem) → distinct ds ≡ true → has ds d ≡ false → distinct (ds ++ d ∷ []) ≡ true
distinct_push [] d o h = refl
distinct_push (x ∷ xs) d o h = once_more x (xs ++ d ∷ [])
    (false_since (has (xs ++ d ∷ []) x) (λ e. ⊎_elim (λ q. both_ways (has (x ∷ xs) d) h (here x xs d (sym q))) (both_ways (has xs x) (head_new x xs o)) (has_pushed xs d x e)))
    (distinct_push xs d (tail_once x xs o) (false_since (has xs d) (λ e. both_ways (has (x ∷ xs) d) h (there x xs d e))))

pub distinct_at : (ds : List Elem) (j i : ℕ) → distinct ds ≡ true → j < i → i < length ds → get_or ds j 𝟘 ≡ get_or ds i 𝟘 → ⊥
distinct_at [] j i o l h e = absurd (omega arith)
distinct_at (x ∷ xs) j zero o l h e = absurd (omega arith)
distinct_at (x ∷ xs) zero (suc i) o l h e = both_ways (has xs x) (head_new x xs o) (subst (λ n. has xs n ≡ true) (sym e) (has_at xs i (le_of_suc-le-suc h)))
distinct_at (x ∷ xs) (suc j) (suc i) o l h e = distinct_at xs j i (tail_once x xs o) (le_of_suc-le-suc l) (le_of_suc-le-suc h) e

-- what is left without d
pub without_other : (ds : List Elem) (d x : Elem) → has (without ds d) x ≡ true → has ds x ≡ true
without_other [] d x h = h
without_other (y ∷ ys) d x h = go (without_other ys d x) (alike y d) h
  where
    go : (has (without ys d) x ≡ true → has ys x ≡ true) → (t : Bool) → has (cond t ys (y ∷ without ys d)) x ≡ true → has (y ∷ ys) x ≡ true
    go f true k = there y ys x k
    go f false k = ⊎_elim (here y ys x) (λ e. there y ys x (f e)) (where_has y (without ys d) x k)

pub without_keeps : (ds : List Elem) (d x : Elem) → (d ≡ x → ⊥) → has ds x ≡ true → has (without ds d) x ≡ true
without_keeps [] d x n h = h
without_keeps (y ∷ ys) d x n h = go (without_keeps ys d x n) (alike y d) refl
  where
    go : (has ys x ≡ true → has (without ys d) x ≡ true) → (t : Bool) → alike y d ≡ t → has (cond t ys (y ∷ without ys d)) x ≡ true
    go f true q = ⊎_elim (λ e. absurd (n (sym (alike_true y d q) ∙ e))) (λ e. e) (where_has y ys x h)
    go f false q = ⊎_elim (here y (without ys d) x) (λ e. there y (without ys d) x (f e)) (where_has y ys x h)

pub without_gone : (ds : List Elem) (d : Elem) → distinct ds ≡ true → has (without ds d) d ≡ false
without_gone [] d o = refl
without_gone (y ∷ ys) d o = go (without_gone ys d (tail_once y ys o)) (alike y d) refl
  where
    go : has (without ys d) d ≡ false → (t : Bool) → alike y d ≡ t → has (cond t ys (y ∷ without ys d)) d ≡ false
    go f true q = ap (has ys) (sym (alike_true y d q)) ∙ head_new y ys o
    go f false q = false_since _ (λ h. ⊎_elim (alike_false y d q) (both_ways _ f) (where_has y (without ys d) d h))

pub has_without : (ds : List Elem) (d x : Elem) → distinct ds ≡ true → has (without ds d) x ≡ cond (alike d x) false (has ds x)
has_without ds d x o = go (alike d x) refl
  where
    go : (t : Bool) → alike d x ≡ t → has (without ds d) x ≡ cond t false (has ds x)
    go true q = ap (has (without ds d)) (sym (alike_true d x q)) ∙ without_gone ds d o
    go false q = ⊎_elim (λ e. without_keeps ds d x (alike_false d x q) e ∙ sym e) (λ e. false_since _ (λ h. both_ways _ e (without_other ds d x h)) ∙ sym e) (cases_Bool (has ds x))

pub distinct_without : (ds : List Elem) (d : Elem) → distinct ds ≡ true → distinct (without ds d) ≡ true
distinct_without [] d o = refl
distinct_without (x ∷ xs) d o = go (alike x d) (distinct_without xs d (tail_once x xs o))
  where
    go : (t : Bool) → distinct (without xs d) ≡ true → distinct (cond t xs (x ∷ without xs d)) ≡ true
    go true w = tail_once x xs o
    go false w = once_more x (without xs d) (false_since (has (without xs d) x) (λ e. both_ways (has xs x) (head_new x xs o) (without_other xs d x e))) w

pub length_without : (ds : List Elem) (d : Elem) → has ds d ≡ true → length (without ds d) + 1 ≡ length ds
length_without [] d h = absurd (both_ways false refl h)
length_without (y ∷ ys) d h = go (length_without ys d) (alike y d) refl
  where
    go : (has ys d ≡ true → length (without ys d) + 1 ≡ length ys) → (t : Bool) → alike y d ≡ t → length (cond t ys (y ∷ without ys d)) + 1 ≡ length (y ∷ ys)
    go f true q = omega arith
    go f false q = let e = f (⊎_elim (λ e. absurd (alike_false y d q e)) (λ e. e) (where_has y ys d h)) in omega arith

-- taking out the first place that holds d
pub removed_without : (ds : List Elem) (i : ℕ) (d : Elem) → i < length ds → get_or ds i 𝟘 ≡ d → ((k : ℕ) → k < i → get_or ds k 𝟘 ≡ d → ⊥) → remove ds i ≡ without ds d
removed_without [] i d h e f = absurd (omega arith)
removed_without (x ∷ xs) zero d h e f = sym (ap (λ t. cond t xs (x ∷ without xs d)) (alike_same x d e))
removed_without (x ∷ xs) (suc i) d h e f =
    ap (λ l. x ∷ l) (removed_without xs i d (le_of_suc-le-suc h) e (λ k lt. f (suc k) (omega arith)))
    ∙ sym (ap (λ t. cond t xs (x ∷ without xs d)) (alike_other x d (f 0 (omega arith))))

pub distinct_removed : (ds : List Elem) (i : ℕ) → i < length ds → distinct ds ≡ true → distinct (remove ds i) ≡ true
distinct_removed ds i h o = ap distinct (removed_without ds i (get_or ds i 𝟘) h refl (λ k l. distinct_at ds k i o l h)) ∙ distinct_without ds (get_or ds i 𝟘) o

-- a list without repetition whose numbers are all in another is no longer
pub sub_length : (xs ys : List Elem) → distinct xs ≡ true → ((x : Elem) → has xs x ≡ true → has ys x ≡ true) → length xs ≤ length ys
sub_length [] ys o f = omega arith
sub_length (x ∷ xs) ys o f =
    let less = sub_length xs (without ys x) (tail_once x xs o) (λ z h. without_keeps ys x z (λ e. both_ways (has xs x) (head_new x xs o) (subst (λ n. has xs n ≡ true) (sym e) h)) (f z (there x xs z h))) in
    let one = length_without ys x (f x (here x xs x refl)) in
    omega arith

pub same_places : (xs ys : List Elem) → length xs ≡ length ys → ((k : ℕ) → k < length xs → get_or xs k 𝟘 ≡ get_or ys k 𝟘) → xs ≡ ys
same_places [] [] e f = refl
same_places [] (y ∷ ys) e f = absurd (omega arith)
same_places (x ∷ xs) [] e f = absurd (omega arith)
same_places (x ∷ xs) (y ∷ ys) e f = let h = f 0 (omega arith) in let t = same_places xs ys (omega arith) (λ k l. f (suc k) (omega arith)) in λ i. h i ∷ t i

-- the places above i moved down by one
pub moved_down : (xs ys : List Elem) (i n : ℕ) → i < n → n ≤ length xs → length ys ≡ length xs → ((k : ℕ) → k < i → get_or ys k 𝟘 ≡ get_or xs k 𝟘) → ((k : ℕ) → i ≤ k → k + 1 < n → get_or ys k 𝟘 ≡ get_or xs (k + 1) 𝟘) → take (n - 1) ys ≡ remove (take n xs) i
moved_down xs ys i n l m e f g =
    let whole : length (take n xs) ≡ n = length-take-le n xs m in
    let less : length (remove (take n xs) i) + 1 ≡ length (take n xs) = length-remove (take n xs) i (omega arith) in
    let long : length (take (n - 1) ys) ≡ n - 1 = length-take-le (n - 1) ys (omega arith) in
    same_places (take (n - 1) ys) (remove (take n xs) i) (omega arith) (λ k h.
    get_or-take (n - 1) ys k 𝟘 (omega arith)
    ∙ ⊎_elim
    (λ b. f k b ∙ sym (get_or-take n xs k 𝟘 (omega arith)) ∙ sym (get_or-remove_below (take n xs) i 𝟘 k b (omega arith)))
    (λ b. g k b (omega arith) ∙ sym (get_or-take n xs (k + 1) 𝟘 (omega arith)) ∙ sym (get_or-remove_above (take n xs) i 𝟘 k b (omega arith)))
    (cases_lt k i))

-- in the list, by the test and by place
pub has_listed : (ds : List Elem) (d : Elem) → Has ds d → has ds d ≡ true
has_listed ds d m = subst (λ e. has ds e ≡ true) (m.2 𝟘) (has_at ds m.0 m.1)

pub listed_has : (ds : List Elem) (d : Elem) → has ds d ≡ true → Has ds d
listed_has ds d h = let p = place ds d h in subst (Has ds) p.2 (has_get_or ds p.0 𝟘 p.1)
