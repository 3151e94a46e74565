use Rattle.std.proofs.Common.{◌≡◌, ℤ, pos, Decides, subst}
use lib.Signed.{rem_z}
use Rattle.systems.proofs.Rules.{answers, g5_rule}
use Rattle.systems.proofs.five.G5Asks.divides.Goals as goal

pub returns : goal.returns
returns g c = answers g5_rule _ c.multiple.result (subst (λ (k : ℤ). Decides c.multiple.result (rem_z k (pos 5) ≡ pos 0)) c.first.ensures c.multiple.ensures)
