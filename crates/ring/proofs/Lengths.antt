-- How long expansions are: the weighted sums of their ends are a trail whose elements differ.
use Rattle.std.proofs.Common.{◌≡◌, ℕ, zero, suc, ◌+◌, ◌-◌, ◌*◌, ◌^◌, ◌<◌, ◌≤◌, List, [], ◌∷◌, length, get_or, drop, sym, ap, ◌∙◌, subst, arith}
use Rattle.std.specs.List.{ContainsAt as Has}
use Rattle.ring.specs.Elem.{Elem, Below, 𝟘}
use Rattle.ring.specs.System.{System, Lawful, size}
use Rattle.ring.specs.Class.{InRange, Full}
use Rattle.ring.specs.Expansion.{weighted, Expands}
use Rattle.ring.specs.Trail.{Step, Trail}
use Rattle.ring.proofs.Expansions.{nil, tail}
use Rattle.ring.proofs.Steps.{expands_step, unique}
use Rattle.ring.proofs.Pigeonhole.{pigeonhole}
use Rattle.ring.proofs.Trails.{zero_step}
use Rattle.ring.proofs.Magnitudes.{digit_size}
use Rattle.ring.proofs.Falling.{norm_falls}
use Rattle.ring.proofs.Boxes.{code, code_high, code_one, in_box}
use Rattle.ring.proofs.Rounds.{stays}

length_drop : (j : ℕ) (es : List Elem) → j ≤ length es → length (drop j es) + j ≡ length es
length_drop zero es h = omega arith
length_drop (suc j) [] h = absurd (omega arith)
length_drop (suc j) (e ∷ es) h = let k = length_drop j es (omega arith) in omega arith

module _ (s : System) (g : Lawful s) (v : ℕ) (S : Elem → Type 0) (full : Full s (suc v) S) where
  -- what is left of an expansion expands its weighted sum
  ends : (j : ℕ) (z : Elem) (es : List Elem) → Expands s (suc v) S z es → Expands s (suc v) S (weighted s (drop j es)) (drop j es)
  ends zero z es x = subst (λ u. Expands s (suc v) S u es) (sym x.total) x
  ends (suc j) z [] x = nil s g (suc v) S
  ends (suc j) z (e ∷ es) x = ends j (weighted s es) es (tail s g (suc v) S z e es x)

  -- those weighted sums are the trail
  ends_trail : (z : Elem) (es : List Elem) → Expands s (suc v) S z es → Trail s (suc v) S (λ j. weighted s (drop j es))
  ends_trail z [] x zero = (𝟘, zero_step s g v S full)
  ends_trail z [] x (suc k) = (𝟘, zero_step s g v S full)
  ends_trail z (e ∷ es) x zero = (e, subst (λ u. Step s (suc v) S u e (weighted s es)) (sym x.total) (expands_step s g v S full.odd z e es x))
  ends_trail z (e ∷ es) x (suc k) = ends_trail (weighted s es) es (tail s g (suc v) S z e es x) k

  -- no two are the same
  ends_one : (z : Elem) (es : List Elem) → Expands s (suc v) S z es → (i j : ℕ) → i ≤ length es → j ≤ length es → weighted s (drop i es) ≡ weighted s (drop j es) → i ≡ j
  ends_one z es x i j l m e =
      let u = ap length (unique s g v S full.odd full.one (weighted s (drop j es)) (drop i es) (drop j es) (subst (λ y. Expands s (suc v) S y (drop i es)) e (ends i z es x)) (ends j z es x)) in
      let a = length_drop i es l in
      let b = length_drop j es m in
      omega arith

  -- where the elements of norm at most 12·D have numbers of their own below K
  module _ (D : ℕ) (some : 1 ≤ D) (small : (d : Elem) → S d → size s d ≤ D) (K : ℕ) (number : (y : Elem) → size s y ≤ 12 * D → ℕ)
      (number_high : (y : Elem) (h : size s y ≤ 12 * D) → number y h < K)
      (number_one : (y z : Elem) (h : size s y ≤ 12 * D) (k : size s z ≤ 12 * D) → number y h ≡ number z k → y ≡ z) where
    pub length_bound : (k : ℕ) (z : Elem) (es : List Elem) → Below (2 ^ k) z → Expands s (suc v) S z es → length es ≤ 2 * k + 2 + K
    length_bound k z es l x =
        let f : ℕ → Elem = λ j. weighted s (drop j es) in
        let t = ends_trail z es x in
        let start = norm_falls s g (suc v) D S small f t some k (subst (Below (2 ^ k)) (sym x.total) l) in
        let low : (j : ℕ) → size s (f (2 * k + 2 + j)) ≤ 12 * D = λ j. stays s g (suc v) D (12 * D) S small (omega arith) f t (2 * k + 2) start j in
        let m = pigeonhole K (length es - (2 * k + 2)) (λ j. number (f (2 * k + 2 + j)) (low j))
        (λ j h. number_high (f (2 * k + 2 + j)) (low j))
        (λ i j h b e. let u = ends_one z es x (2 * k + 2 + i) (2 * k + 2 + j) (omega arith) (omega arith) (number_one (f (2 * k + 2 + i)) (f (2 * k + 2 + j)) (low i) (low j) e) in omega arith) in
        omega arith

pub length_by_list : (s : System) (g : Lawful s) (v : ℕ) (S : Elem → Type 0) → Full s (suc v) S → (D : ℕ) → 1 ≤ D → ((d : Elem) → S d → size s d ≤ D) →
    (zs : List Elem) → ((z : Elem) → size s z ≤ 12 * D → Has zs z) →
    (k : ℕ) (z : Elem) (es : List Elem) → Below (2 ^ k) z → Expands s (suc v) S z es → length es ≤ 2 * k + 2 + length zs
length_by_list s g v S full D some small zs near =
    length_bound s g v S full D some small (length zs) (λ y h. (near y h).0) (λ y h. (near y h).1)
    (λ y z h k e. sym ((near y h).2 𝟘) ∙ ap (λ i. get_or zs i 𝟘) e ∙ (near z k).2 𝟘)

pub length_fits : (s : System) (g : Lawful s) (v : ℕ) (S : Elem → Type 0) → Full s (suc v) S → ((d : Elem) → S d → InRange d) →
    (z : Elem) (es : List Elem) → Below (2 ^ 56) z → Expands s (suc v) S z es → length es < 2 ^ 32
length_fits s g v S full ranged z es l x =
    let box = in_box s g (12 * 260100) 2040 (omega arith) in
    let h = length_bound s g v S full 260100 (omega arith) (λ d m. digit_size s g d (ranged d m)) 16654561 (λ y h. code 2040 y)
    (λ y h. let c = code_high 2040 y (box y h) in omega arith) (λ y z h k. code_one 2040 y z (box y h) (box z k)) 56 z es l x in
    omega arith
