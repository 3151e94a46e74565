-- How elements act, at the points of every lawful meaning.
use Rattle.std.proofs.Common.{◌≡◌, ℕ, zero, suc, true, T, ℤ, pos, negsuc, sym, refl, ap, ◌∙◌, subst}
use mathlib.Core.HLevel.{Σ_prop_path}
use lib.Dec.{T_prop}
use Rattle.ring.specs.Elem.{Elem, add, 𝟘, 𝟙}
use Rattle.ring.specs.System.{System, mul}
use Rattle.engine.specs.Meaning.{Meaning, LawfulMeaning, times_n, times, act}
use Rattle.engine.specs.Rings.{Over}
use Rattle.engine.specs.Theorems.{ActingLaws, StepLaw}
use Rattle.engine.proofs.Free as free
use Rattle.engine.proofs.Free.{Free}

module _ {C : Type 0} {m : Meaning C} (l : LawfulMeaning m) where
  abbrev Pt : Type 0
  Pt = (p : C) × T (m.is_point p)

  -- the points alone
  abbrev sub : Meaning Pt
  sub = record {
    t = m.t;
    n = m.n;
    start = (m.start, l.start_point);
    is_point = λ _. true;
    sum = λ p q. (m.sum p.0 q.0, l.sum_point p.0 q.0 p.1 q.1);
    θ = λ p. (m.θ p.0, l.θ_point p.0 p.1);
    origin = (m.origin, l.origin_point);
    opposite = λ p. (m.opposite p.0, l.opposite_point p.0 p.1);
  }

  same : (p q : Pt) → p.0 ≡ q.0 → p ≡ q
  same p q e = Σ_prop_path {B = λ c. T (m.is_point c)} (λ c. T_prop (m.is_point c)) {u = p} {v = q} e

  times_n_val : (k : ℕ) (p : Pt) → (times_n sub k p).0 ≡ times_n m k p.0
  unfolding times_n
  times_n_val zero p = refl
  times_n_val (suc k) p = ap (m.sum p.0) (times_n_val k p)

  times_val : (k : ℤ) (p : Pt) → (times sub k p).0 ≡ times m k p.0
  unfolding times
  times_val (pos k) p = times_n_val k p
  times_val (negsuc k) p = ap m.opposite (times_n_val (suc k) p)

  act_val : (a : Elem) (p : Pt) → (act sub a p).0 ≡ act m a p.0
  unfolding act
  act_val a p = ap (λ z. m.sum z (times sub a.y (sub.θ p)).0) (times_val a.x p) ∙ ap (m.sum (times m a.x p.0)) (times_val a.y (sub.θ p))

  all : Free sub
  all = record {
    comm = λ p q. same (sub.sum p q) (sub.sum q p) (l.comm p.0 q.0 p.1 q.1);
    assoc = λ p q r. same (sub.sum (sub.sum p q) r) (sub.sum p (sub.sum q r)) (l.assoc p.0 q.0 r.0 p.1 q.1 r.1);
    unit = λ p. same (sub.sum p sub.origin) p (l.unit p.0 p.1);
    cancels = λ p. same (sub.sum p (sub.opposite p)) sub.origin (l.cancels p.0 p.1);
    θ_sum = λ p q. same (sub.θ (sub.sum p q)) (sub.sum (sub.θ p) (sub.θ q)) (l.θ_sum p.0 q.0 p.1 q.1);
    square = λ p. same (sub.sum (sub.θ (sub.θ p)) (times sub m.n p)) (times sub m.t (sub.θ p)) (ap (m.sum (m.θ (m.θ p.0))) (times_val m.n p) ∙ l.square p.0 p.1 ∙ sym (times_val m.t (sub.θ p)));
  }

  module _ (p : C) (h : T (m.is_point p)) where
    abbrev pt : Pt
    pt = (p, h)

    pub act_point : (a : Elem) → T (m.is_point (act m a p))
    act_point a = subst (λ c. T (m.is_point c)) (act_val a pt) (act sub a pt).1

    pub act_zero : act m 𝟘 p ≡ m.origin
    act_zero = sym (act_val 𝟘 pt) ∙ ap (λ z. z.0) (free.act_zero all pt)

    pub act_one : act m 𝟙 p ≡ p
    act_one = sym (act_val 𝟙 pt) ∙ ap (λ z. z.0) (free.act_one all pt)

    pub act_add : (a b : Elem) → act m (add a b) p ≡ m.sum (act m a p) (act m b p)
    act_add a b = sym (act_val (add a b) pt) ∙ ap (λ z. z.0) (free.act_add all a b pt) ∙ ap (λ z. m.sum z (act sub b pt).0) (act_val a pt) ∙ ap (m.sum (act m a p)) (act_val b pt)

    pub act_sum : (a : Elem) (q : C) → T (m.is_point q) → act m a (m.sum p q) ≡ m.sum (act m a p) (act m a q)
    act_sum a q hq = sym (act_val a (sub.sum pt (q, hq))) ∙ ap (λ z. z.0) (free.act_sum all a pt (q, hq)) ∙ ap (λ z. m.sum z (act sub a (q, hq)).0) (act_val a pt) ∙ ap (m.sum (act m a p)) (act_val a (q, hq))

    pub act_mul : (s : System) → Over s m → (a b : Elem) → act m (mul s a b) p ≡ act m a (act m b p)
    act_mul s over a b =
        let over' : Over s sub = record { same_t = over.same_t; same_n = over.same_n } in
        sym (act_val (mul s a b) pt) ∙ ap (λ z. z.0) (free.act_mul all s over' a b pt) ∙ act_val a (act sub b pt) ∙ ap (act m a) (act_val b pt)

pub acting_laws : {C : Type 0} → ActingLaws C
acting_laws m l p h a = record {
  point = act_point l p h a;
  zero = act_zero l p h;
  one = act_one l p h;
  sum_of_elements = act_add l p h a;
  sum_of_points = act_sum l p h a;
  product = λ s over. act_mul l p h s over a;
}

pub step_law : {C : Type 0} → StepLaw C
step_law m l s over w q total current et ec d b =
    let product = act_mul l m.start l.start_point s over in
    record {
      added = ap (λ z. m.sum z (act m d current)) et ∙ ap (m.sum (act m w m.start)) (ap (act m d) ec ∙ sym (product d q)) ∙ sym (act_add l m.start l.start_point w (mul s d q));
      shifted = ap (act m b) ec ∙ sym (product b q);
    }
