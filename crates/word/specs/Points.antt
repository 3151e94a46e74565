-- The points of a word engine: their multiples, and that its meaning is lawful.
use Rattle.std.specs.Prelude.{◌≡◌, ℕ, zero, suc, ◌^◌, ◌<◌, Bool, true, false, cond, not, T, ℤ, pos, negsuc, bit_xor, unsigned_abs}
use Rattle.std.proofs.Math.Path.{refl, ap}
use Rattle.std.proofs.Common.{sym, ◌∙◌, arith, lt→ltb, ltb→lt}
use Rattle.std.specs.Int.Bits.{xor_zero_l, xor_zero_r, xor_assoc, xor_self}
use Rattle.std.proofs.lemmas.Nat.{xor_comm, xor_lt}
use Rattle.std.specs.Float.Ieee.Fits.{and_i, and_l, and_r}
use Rattle.engine.specs.Meaning.{Meaning, LawfulMeaning, times_n, times, act, elem}
use Rattle.engine.specs.declared.Point.{Point}
use Rattle.word.specs.Word.{words, is_word, odd, if_odd, word}

word_lt : (z : ℤ) → T (is_word z) → unsigned_abs z < 2 ^ 32
word_lt (pos k) h = ltb→lt k (2 ^ 32) h
word_lt (negsuc k) h = absurd h

word_is : (z : ℤ) → T (is_word z) → pos (unsigned_abs z) ≡ z
word_is (pos k) h = refl
word_is (negsuc k) h = absurd h

xor_left : (a b c : ℕ) → bit_xor a (bit_xor b c) ≡ bit_xor b (bit_xor a c)
xor_left a b c = sym (xor_assoc a b c) ∙ ap (λ (z : ℕ). bit_xor z c) (xor_comm a b) ∙ xor_assoc b a c

xor_back : (a b : ℕ) → bit_xor a (bit_xor a b) ≡ b
xor_back a b = sym (xor_assoc a a b) ∙ ap (λ (z : ℕ). bit_xor z b) (xor_self a) ∙ xor_zero_l b

odd_suc : (k : ℕ) → odd (pos (suc k)) ≡ not (odd (pos k))
unfolding odd
odd_suc k = grind arith

cond_lt : (b : Bool) (a : ℕ) → a < 2 ^ 32 → cond b a 0 < 2 ^ 32
cond_lt true a h = h
cond_lt false a h = omega arith

xor_cond : (b : Bool) (a c : ℕ) → cond b (bit_xor a c) 0 ≡ bit_xor (cond b a 0) (cond b c 0)
xor_cond true a c = refl
xor_cond false a c = sym (xor_self 0)

step_cond : (b : Bool) (a : ℕ) → bit_xor a (cond b a 0) ≡ cond (not b) a 0
step_cond true a = xor_self a
step_cond false a = xor_zero_r a

-- the law of θ twice, by whether n and t are odd
square_u : (n t : Bool) (u v : ℕ) → bit_xor (cond n (bit_xor u (cond t v 0)) 0) (cond n u 0) ≡ cond t (cond n v 0) 0
square_u true true u v = xor_comm (bit_xor u v) u ∙ xor_back u v
square_u true false u v = ap (λ (z : ℕ). bit_xor z u) (xor_zero_r u) ∙ xor_self u
square_u false true u v = refl
square_u false false u v = refl

square_v : (n t : Bool) (u v : ℕ) → bit_xor (bit_xor (cond n v 0) (cond t (bit_xor u (cond t v 0)) 0)) (cond n v 0) ≡ cond t (bit_xor u (cond t v 0)) 0
square_v n t u v = ap (λ (z : ℕ). bit_xor z (cond n v 0)) (xor_comm (cond n v 0) _) ∙ xor_assoc _ (cond n v 0) (cond n v 0) ∙ ap (bit_xor (cond t (bit_xor u (cond t v 0)) 0)) (xor_self (cond n v 0)) ∙ xor_zero_r _

module _ (t n : ℤ) (a b : ℕ) where
  abbrev M : Meaning Point
  M = word t n a b

  words_point : (c d : ℕ) → c < 2 ^ 32 → d < 2 ^ 32 → T (M.is_point (words c d))
  words_point c d h k = and_i (is_word (pos c)) (is_word (pos d)) (lt→ltb c (2 ^ 32) h) (lt→ltb d (2 ^ 32) k)

  u_lt : (p : Point) → T (M.is_point p) → unsigned_abs p.u < 2 ^ 32
  u_lt p h = word_lt p.u (and_l (is_word p.u) (is_word p.v) h)

  v_lt : (p : Point) → T (M.is_point p) → unsigned_abs p.v < 2 ^ 32
  v_lt p h = word_lt p.v (and_r (is_word p.u) (is_word p.v) h)

  val_is : (p : Point) → T (M.is_point p) → words (unsigned_abs p.u) (unsigned_abs p.v) ≡ p
  val_is p h = λ i. record { u = word_is p.u (and_l (is_word p.u) (is_word p.v) h) i; v = word_is p.v (and_r (is_word p.u) (is_word p.v) h) i }

  both : {c c' d d' : ℕ} → c ≡ c' → d ≡ d' → words c d ≡ words c' d'
  both e f = λ i. words (e i) (f i)

  times_n_is : (k : ℕ) (p : Point) → times_n M k p ≡ words (if_odd (pos k) (unsigned_abs p.u)) (if_odd (pos k) (unsigned_abs p.v))
  unfolding times_n odd
  times_n_is zero p = refl
  times_n_is (suc k) p = ap (M.sum p) (times_n_is k p) ∙ both (step_cond (odd (pos k)) (unsigned_abs p.u) ∙ ap (λ z. cond z (unsigned_abs p.u) 0) (sym (odd_suc k))) (step_cond (odd (pos k)) (unsigned_abs p.v) ∙ ap (λ z. cond z (unsigned_abs p.v) 0) (sym (odd_suc k)))

  times_is : (k : ℤ) (p : Point) → times M k p ≡ words (if_odd k (unsigned_abs p.u)) (if_odd k (unsigned_abs p.v))
  unfolding times odd
  times_is (pos k) p = times_n_is k p
  times_is (negsuc k) p = times_n_is (suc k) p

  pub act_is : (x y : ℤ) (p : Point) → act M (elem x y) p ≡ M.sum (words (if_odd x (unsigned_abs p.u)) (if_odd x (unsigned_abs p.v))) (words (if_odd y (unsigned_abs (M.θ p).u)) (if_odd y (unsigned_abs (M.θ p).v)))
  unfolding act
  act_is x y p = ap (λ q. M.sum q (times M y (M.θ p))) (times_is x p) ∙ ap (λ q. M.sum (words (if_odd x (unsigned_abs p.u)) (if_odd x (unsigned_abs p.v))) q) (times_is y (M.θ p))

  pub lawful : a < 2 ^ 32 → b < 2 ^ 32 → LawfulMeaning M
  lawful a_lt b_lt = record {
    start_point = words_point a b a_lt b_lt;
    origin_point = words_point 0 0 (omega arith) (omega arith);
    sum_point = λ p q h k. words_point (bit_xor (unsigned_abs p.u) (unsigned_abs q.u)) (bit_xor (unsigned_abs p.v) (unsigned_abs q.v)) (xor_lt 32 (unsigned_abs p.u) (unsigned_abs q.u) (u_lt p h) (u_lt q k)) (xor_lt 32 (unsigned_abs p.v) (unsigned_abs q.v) (v_lt p h) (v_lt q k));
    opposite_point = λ p h. h;
    θ_point = λ p h. words_point (if_odd n (unsigned_abs p.v)) (bit_xor (unsigned_abs p.u) (if_odd t (unsigned_abs p.v))) (cond_lt (odd n) (unsigned_abs p.v) (v_lt p h)) (xor_lt 32 (unsigned_abs p.u) (if_odd t (unsigned_abs p.v)) (u_lt p h) (cond_lt (odd t) (unsigned_abs p.v) (v_lt p h)));
    comm = λ p q _ _. both (xor_comm (unsigned_abs p.u) (unsigned_abs q.u)) (xor_comm (unsigned_abs p.v) (unsigned_abs q.v));
    assoc = λ p q r _ _ _. both (xor_assoc (unsigned_abs p.u) (unsigned_abs q.u) (unsigned_abs r.u)) (xor_assoc (unsigned_abs p.v) (unsigned_abs q.v) (unsigned_abs r.v));
    unit = λ p h. both (xor_zero_r (unsigned_abs p.u)) (xor_zero_r (unsigned_abs p.v)) ∙ val_is p h;
    cancels = λ p h. both (xor_self (unsigned_abs p.u)) (xor_self (unsigned_abs p.v));
    θ_sum = λ p q _ _. both (xor_cond (odd n) (unsigned_abs p.v) (unsigned_abs q.v)) (ap (bit_xor (bit_xor (unsigned_abs p.u) (unsigned_abs q.u))) (xor_cond (odd t) (unsigned_abs p.v) (unsigned_abs q.v)) ∙ simp (xor_assoc, xor_left));
    square = λ p h. ap (M.sum (M.θ (M.θ p))) (times_is n p) ∙ both (square_u (odd n) (odd t) (unsigned_abs p.u) (unsigned_abs p.v)) (square_v (odd n) (odd t) (unsigned_abs p.u) (unsigned_abs p.v)) ∙ sym (times_is t (M.θ p));
  }
