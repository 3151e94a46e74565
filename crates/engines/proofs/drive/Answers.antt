use Rattle.std.proofs.Common.{◌≡◌, ◌+◌, [], ◌∷◌, ◌++◌, length, take, ℤ, sym, refl, ap, ◌∙◌, subst, arith}
use Rattle.std.proofs.lemmas.List.{take_more, take_all, length-take-le}
use Rattle.ring.specs.Elem.{𝟘}
use Rattle.ring.specs.System.{System}
use Rattle.ring.specs.Class.{InRange}
use Rattle.ring.specs.Expansion.{weighted}
use Rattle.ring.proofs.Magnitudes.{base_in_range}
use Rattle.engine.specs.Meaning.{act}
use Rattle.engine.specs.Rings.{Over}
use Rattle.engine.proofs.Acting.{act_zero, act_one}
use Rattle.numbers.specs.Meaning.{short}
use Rattle.numbers.specs.declared.elements.Element.{Element}
use Rattle.digits.specs.Digits.{elems, elem_of}
use Rattle.digits.proofs.Listed.{length_elems, elem_at}
use Rattle.engine.proofs.Bits.{bits, through_bits}
use Rattle.engines.proofs.Feeding.{fed_total, fed_current}
use Rattle.engines.proofs.drive.Given as given
use Rattle.engines.proofs.drive.Goals as goal

pub loop-d-init : goal.loop-d-init
loop-d-init g c =
    let m = g.E.PointEngine.machine.meaning c.restart.new.self in
    let law = g.met.E.PointEngine.lawful c.restart.new.self in
    let is = c.restart.ensures.same in
    record {
      same = refl;
      total = λ _. c.restart.ensures.total ∙ ap (λ k. k.origin) (sym is) ∙ sym (act_zero law m.start law.start_point);
      current = λ _. c.restart.ensures.current ∙ ap (λ k. k.start) (sym is) ∙ sym (act_one law m.start law.start_point);
    }

-- the base as the system has it
module _ (g : given.Over) (base : Element ℤ) (is : base ≡ g.S.Ruled.BASE) where
  base_is : short base ≡ g.S.Ruled.ring.β
  base_is = ap short is ∙ ap (λ (s : System). s.β) g.S.Ruled.ruled

  base_ranged : InRange (short base)
  base_ranged = subst InRange (sym base_is) (base_in_range g.S.Ruled.ring g.S.Ruled.lawful)

  base_kept : bits (short base) ≡ short base
  base_kept = through_bits (short base) base_ranged

pub shift-requires : goal.shift-requires
shift-requires g c =
    let base = c.BASE-base.result in
    let is = c.BASE-base.ensures in
    subst InRange (sym (base_kept g base is)) (base_ranged g base is)

pub loop-d-preserved : goal.loop-d-preserved
loop-d-preserved g c =
    let e = g.E.PointEngine.machine in
    let s = g.S.Ruled.ring in
    let r = c.restart.new.self in
    let m = e.meaning r in
    let law = g.met.E.PointEngine.lawful r in
    let was = c.loop-d.invariant.same in
    let T = e.total_of c.loop-d.engine in
    let K = e.current_of c.loop-d.engine in
    let ds = c.args.digits.now in
    let i = c.loop-d.d-index in
    let d = elem_of c.d-item.result in
    let here = c.loop-d-test.true in
    let digit = through_bits (short c.element-e.result) c.element-e.ensures.ranged ∙ c.element-e.ensures.is in
    let base = base_kept g c.BASE-base.result c.BASE-base.ensures ∙ base_is g c.BASE-base.result c.BASE-base.ensures in
    let D = bits (short c.element-e.result) in
    let B = bits (short c.BASE-base.result) in
    let total : e.total_of c.shift.new.self ≡ m.sum T (act m d K) = c.shift.ensures.total ∙ c.add.ensures.total ∙ ap (λ k. k.sum T (act k D K)) was ∙ ap (λ a. m.sum T (act m a K)) digit in
    let current : e.current_of c.shift.new.self ≡ act m s.β K = c.shift.ensures.current ∙ ap (λ k. act k B (e.current_of c.add.new.self)) (c.add.ensures.same ∙ was) ∙ ap (λ k. act m B k) c.add.ensures.current ∙ ap (λ a. act m a K) base in
    let more : take (i + 1) (elems ds) ≡ take i (elems ds) ++ d ∷ [] = take_more (elems ds) i 𝟘 (omega (arith, here, length_elems ds)) ∙ ap (λ x. take i (elems ds) ++ x ∷ []) (elem_at ds c.d-item.result i here (sym c.d-item.is)) in
    let long : length (take i (elems ds)) ≡ i = length-take-le i (elems ds) (omega (arith, here, length_elems ds)) in
    record {
      same = c.shift.ensures.same ∙ c.add.ensures.same ∙ was;
      total = λ o. total ∙ fed_total m law s o (take i (elems ds)) i long T K (c.loop-d.invariant.total o) (c.loop-d.invariant.current o) d ∙ ap (λ w. act m (weighted s w) m.start) (sym more);
      current = λ o. current ∙ fed_current m law s o (take i (elems ds)) i long T K (c.loop-d.invariant.total o) (c.loop-d.invariant.current o);
    }

pub returns : goal.returns
returns g c =
    let e = g.E.PointEngine.machine in
    let s = g.S.Ruled.ring in
    let ds = c.args.digits.now in
    let is = c.restart.ensures.same in
    let m = e.meaning c.restart.new.self in
    let all : take c.loop-d.d-index (elems ds) ≡ elems ds = take_all c.loop-d.d-index (elems ds) (omega (arith, c.loop-d-test.false, length_elems ds)) in
    let fed : Over s m → e.total_of c.loop-d.engine ≡ act m (weighted s (elems ds)) m.start = λ o. c.loop-d.invariant.total o ∙ ap (λ w. act m (weighted s w) m.start) all in
    record {
      same = c.loop-d.invariant.same ∙ is;
      total = λ o. fed (subst (Over s) (sym is) o) ∙ ap (λ k. act k (weighted s (elems ds)) k.start) is;
    }
