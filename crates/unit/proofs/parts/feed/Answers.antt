use Rattle.std.proofs.Common.{sym, ap, ◌∙◌, subst}
use Rattle.ring.specs.System.{System}
use Rattle.ring.specs.Class.{InRange}
use Rattle.ring.proofs.Magnitudes.{base_in_range}
use Rattle.numbers.specs.Meaning.{short}
use Rattle.engine.proofs.Bits.{through_bits}
use Rattle.unit.proofs.parts.feed.Goals as goal

pub shift-requires : goal.shift-requires
shift-requires g c =
    let is = ap short c.BASE-base.ensures ∙ ap (λ (r : System). r.β) g.S.Ruled.ruled in
    let ranged = subst InRange (sym is) (base_in_range g.S.Ruled.ring g.S.Ruled.lawful) in
    subst InRange (sym (through_bits (short c.BASE-base.result) ranged)) ranged
