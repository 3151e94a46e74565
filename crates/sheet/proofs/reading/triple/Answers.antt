use Rattle.std.proofs.Common.{[], ◌∷◌}
use Rattle.sheet.proofs.Commas.{parts_none, no_first, numbers_less}
use Rattle.sheet.proofs.reading.triple.Goals as goal

pub returns-in_err-x : goal.returns-in_err-x
returns-in_err-x g c = rw c.from_residual.ensures (λ x y z h. parts_none _ _ c.in_err-x.ensures x y (z ∷ []) h.0)

pub returns-in_err-x-2 : goal.returns-in_err-x-2
returns-in_err-x-2 g c =
    rw c.from_residual-in_err-x-2.ensures (λ x y z. no_first g.N.Numeral.denotes g.met.N.Numeral.apart _ _ _ c.in_ok-x.ensures c.in_err-x-2.ensures x y (z ∷ []))

pub returns-in_err-y : goal.returns-in_err-y
returns-in_err-y g c =
    rw c.from_residual-in_err-y.ensures (λ x y z h.
    c.in_err-y.ensures y z (numbers_less g.N.Numeral.denotes g.met.N.Numeral.apart _ _ _ c.in_ok-x.ensures x y (z ∷ []) h).1)
