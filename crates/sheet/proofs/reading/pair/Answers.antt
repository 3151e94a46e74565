use Rattle.std.proofs.Common.{[]}
use Rattle.sheet.proofs.Commas.{parts_none, no_first, numbers_less, one_number}
use Rattle.sheet.proofs.reading.pair.Goals as goal

pub returns-in_err-x : goal.returns-in_err-x
returns-in_err-x g c = rw c.from_residual.ensures (λ a b h. parts_none _ _ c.in_err-x.ensures a b [] h.0)

pub returns-in_err-read : goal.returns-in_err-read
returns-in_err-read g c =
    rw c.from_residual-in_err-read.ensures (λ a b. no_first g.N.Numeral.denotes g.met.N.Numeral.apart _ _ _ c.in_ok-x.ensures c.in_err-read.ensures a b [])

pub returns-in_err-read-2 : goal.returns-in_err-read-2
returns-in_err-read-2 g c =
    rw c.from_residual-in_err-read-2.ensures (λ a b h.
    let n = one_number g.N.Numeral.denotes g.met.N.Numeral.apart _ c.in_ok-x.y b (numbers_less g.N.Numeral.denotes g.met.N.Numeral.apart _ _ _ c.in_ok-x.ensures a b [] h).1 in
    c.in_err-read-2.ensures n.0 n.1)
