use Rattle.std.proofs.Common.{◌≡◌, pos, subst, w64, to_z, of_z, rules}
use Rattle.residue.specs.Made.{Made}
use Rattle.transcript.proofs.opening.engine_for.Goals as goal

pub returns : goal.returns
returns g c =
    let q = c.args.choice in
    let t : to_z w64 (of_z w64 c.from.result) ≡ g.S.Ruled.ring.t = search rules in
    let n : to_z w64 (of_z w64 c.from-2.result) ≡ g.S.Ruled.ring.n = search rules in
    let modulus : to_z w64 (of_z w64 c.cast_signed.result) ≡ pos q.modulus = search rules in
    let root : to_z w64 (of_z w64 c.cast_signed-2.result) ≡ pos q.root = search rules in
    let start : to_z w64 (of_z w64 c.cast_signed-3.result) ≡ pos q.start = search rules in
    subst (λ (A : Type 0). A) (λ i. Made (t i) (n i) (modulus i) (root i) (start i) c.new.result) c.new.ensures
