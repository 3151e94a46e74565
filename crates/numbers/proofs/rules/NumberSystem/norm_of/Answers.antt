use Rattle.std.proofs.Common.{ap, rules}
use Rattle.ring.specs.System.{System, norm}
use Rattle.numbers.specs.Meaning.{short}
use Rattle.numbers.proofs.rules.NumberSystem.norm_of.Goals as goal

pub returns : goal.returns
returns g c = let same = ap (λ (s : System). norm s (short c.args.z)) g.Self.Ruled.ruled in search rules
