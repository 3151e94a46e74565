-- How elements act on points, for every lawful meaning over the carrier C.
use Rattle.std.specs.Prelude.{◌≡◌, T}
use Rattle.ring.specs.Elem.{Elem, add, 𝟘, 𝟙}
use Rattle.ring.specs.System.{System, mul}
use Rattle.engine.specs.Meaning.{Meaning, LawfulMeaning, act}
use Rattle.engine.specs.Rings.{Over}

-- acting gives points, is additive in the element and in the point, and a product acts as one element after the other
abbrev pub ActingLaws : Type 0 → Type 0
ActingLaws C = (m : Meaning C) → LawfulMeaning m → (p : C) → T (m.is_point p) → (a : Elem) → record {
  point : T (m.is_point (act m a p));
  zero : act m 𝟘 p ≡ m.origin;
  one : act m 𝟙 p ≡ p;
  sum_of_elements : (b : Elem) → act m (add a b) p ≡ m.sum (act m a p) (act m b p);
  sum_of_points : (q : C) → T (m.is_point q) → act m a (m.sum p q) ≡ m.sum (act m a p) (act m a q);
  product : (s : System) → Over s m → (b : Elem) → act m (mul s a b) p ≡ act m a (act m b p);
}

-- total is w acting on the start point, and current is q acting on it: then after an add of d and a shift by b they are w + d·q and b·q acting on it
abbrev pub StepLaw : Type 0 → Type 0
StepLaw C = (m : Meaning C) → LawfulMeaning m → (s : System) → Over s m → (w q : Elem) (total current : C) →
    total ≡ act m w m.start → current ≡ act m q m.start → (d b : Elem) → record {
      added : m.sum total (act m d current) ≡ act m (add w (mul s d q)) m.start;
      shifted : act m b current ≡ act m (mul s b q) m.start;
    }
