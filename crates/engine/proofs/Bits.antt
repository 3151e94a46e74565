-- Coordinates as 32 bits give them back: in range they are the same.
use Rattle.std.proofs.Common.{◌≡◌, arith, w32, SFits, to_z, of_z}
use Rattle.std.proofs.lemmas.Int.{ints, to_z-of_z}
use Rattle.ring.specs.Elem.{Elem}
use Rattle.ring.specs.Class.{InRange}
use Rattle.ring.proofs.Elements.{same}
use Rattle.engine.specs.Meaning.{elem}

abbrev pub bits : Elem → Elem
bits a = elem (to_z w32 (of_z w32 a.x)) (to_z w32 (of_z w32 a.y))

pub through_bits : (a : Elem) → InRange a → bits a ≡ a
through_bits a h =
    let fx : SFits w32 a.x = omega (arith, ints, h.in_x) in
    let fy : SFits w32 a.y = omega (arith, ints, h.in_y) in
    same (bits a) a (to_z-of_z w32 a.x fx) (to_z-of_z w32 a.y fy)
