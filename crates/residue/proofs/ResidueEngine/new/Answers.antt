use Rattle.std.proofs.Common.{◌≡◌, ◌<◌, pos, inr, refl, ap, sym, ◌∙◌, arith, rules}
use lib.Signed.{rem_z}
use Rattle.std.proofs.lemmas.Int.{ints}
use Rattle.engine.specs.Rings.{InRing}
use Rattle.residue.specs.Residue.{at, at_root, residue, Modulus}
use Rattle.residue.proofs.ResidueEngine.new.Goals as goal

pub returns-then-not-divides : goal.returns-then-not-divides
returns-then-not-divides c =
    let a = c.args in
    let residues = c.in_ok-residues.residues in
    let ring = c.in_ok-ring.ring in
    let m : Modulus a.m × (pos residues.modulus ≡ a.m) = search rules in
    let tn : InRing a.t a.n × (ring.t ≡ a.t) × (ring.n ≡ a.n) = search rules in
    let r : (c.in_ok-root.root < residues.modulus) × (pos c.in_ok-root.root ≡ a.r) = search rules in
    let not : rem_z (at_root ring.t ring.n (pos c.in_ok-root.root)) (pos residues.modulus) ≡ pos 0 → ⊥ = search rules in
    inr (refl, m.0, λ root. not ((λ i. rem_z (at_root (tn.1 i) (tn.2 i) (r.1 i)) (m.1 i)) ∙ root.5))

pub returns : goal.returns
returns c =
    let a = c.args in
    let residues = c.in_ok-residues.residues in
    let ring = c.in_ok-ring.ring in
    let m : Modulus a.m × (pos residues.modulus ≡ a.m) = search rules in
    let tn : InRing a.t a.n × (ring.t ≡ a.t) × (ring.n ≡ a.n) = search rules in
    let r : (c.in_ok-root.root < residues.modulus) × (pos c.in_ok-root.root ≡ a.r) = search rules in
    let g : (c.in_ok-start.start < residues.modulus) × (pos c.in_ok-start.start ≡ a.g) = search rules in
    let divides : rem_z (at_root ring.t ring.n (pos c.in_ok-root.root)) (pos residues.modulus) ≡ pos 0 = search rules in
    let same = sym (λ i. rem_z (at_root (tn.1 i) (tn.2 i) (r.1 i)) (m.1 i)) in
    (m.0, (tn.0, omega (arith, ints, r, m), omega (arith, ints, r, m), omega (arith, ints, g, m), omega (arith, ints, g, m), same ∙ divides), ((λ i. residue (tn.1 i) (tn.2 i) (m.1 i) (r.1 i) (g.1 i)), refl, ap at g.1))
