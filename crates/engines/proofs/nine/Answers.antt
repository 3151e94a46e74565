use Rattle.std.proofs.Common.{◌≡◌, [], ◌∷◌, pos, negsuc, rules}
use Rattle.ring.specs.Elem.{𝟘}
use Rattle.ring.specs.Expansion.{weighted}
use Rattle.systems.specs.Named.{kp}
use Rattle.engine.specs.Meaning.{elem}
use Rattle.digits.specs.Digits.{elem_of}
use Rattle.engines.proofs.nine.Goals as goal

pub returns : goal.returns
returns c =
    let zero : elem_of c.none-zero.result ≡ 𝟘 = c.none-zero.ensures in
    let one : elem_of c.in_ok-one.one ≡ elem (pos 1) (pos 0) = search rules in
    let minus_one : elem_of c.in_ok-minus_one.minus_one ≡ elem (negsuc 0) (pos 0) = search rules in
    λ i. weighted kp (one i ∷ zero i ∷ zero i ∷ minus_one i ∷ zero i ∷ one i ∷ [])
