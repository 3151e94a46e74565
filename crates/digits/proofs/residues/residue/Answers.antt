use Rattle.std.proofs.Common.{◌≡◌, ◌^◌, ◌≤◌, pos, sym, ap, ◌∙◌, subst, arith, w32, to_z}
use Rattle.std.proofs.lemmas.Int.{ints}
use Rattle.ring.specs.Elem.{Below, sub}
use Rattle.ring.specs.Class.{SameClass}
use Rattle.numbers.specs.Meaning.{meaning, short}
use Rattle.numbers.specs.Question.{rests}
use Rattle.digits.proofs.Modulo.{residue_class, residue_small, residue_inward}
use Rattle.digits.proofs.residues.residue.Goals as goal

pub returns : goal.returns
returns g c =
    let s = g.S.Ruled.ring in
    let w = c.args.width.places in
    let z = meaning g.C.Coordinate.value c.args.z in
    let m = c.modulus.ensures in
    let e : to_z w32 c.modulus.result ≡ pos c.modulus.result = omega (arith, ints, m.most) in
    let is : short c.rest.result ≡ rests z (pos (s.p ^ w)) = c.rest.ensures ∙ ap (rests z) (e ∙ ap pos m.is) in
    let some = subst (λ k. 2 ≤ k) m.is m.some in
    let most = subst (λ k. k ≤ 2 ^ 24) m.is m.most in
    record {
      small = subst (Below (2 ^ 24)) (sym is) (residue_small (s.p ^ w) (2 ^ 24) z some most);
      class = subst (SameClass s w z) (sym is) (residue_class s g.S.Ruled.lawful w z some);
      inward = subst (λ r. Below g.C.Coordinate.WORKING (sub z r)) (sym is) (residue_inward (s.p ^ w) g.C.Coordinate.WORKING z some c.requires);
    }
