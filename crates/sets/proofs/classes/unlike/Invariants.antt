use Rattle.std.proofs.Common.{ℕ, ◌<◌, get_or}
use Rattle.ring.specs.Elem.{𝟘}
use Rattle.ring.specs.Class.{SameClass}
use Rattle.digits.specs.Digits.{elems}
use Rattle.sets.proofs.classes.unlike.Given as goal

abbrev pub invariant-loop-i : goal.invariant-loop-i
invariant-loop-i g l = (m : ℕ) → m < l.i → (n : ℕ) → n < m → SameClass g.S.Ruled.ring l.numeration.width.places (get_or (elems l.numeration.digits.now) n 𝟘) (get_or (elems l.numeration.digits.now) m 𝟘) → ⊥
