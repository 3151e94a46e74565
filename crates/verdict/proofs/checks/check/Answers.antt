use Rattle.digits.specs.Digits.{elems}
use Rattle.verdict.proofs.Holding.{holds}
use Rattle.verdict.proofs.checks.check.Goals as goal

pub returns : goal.returns
returns g c = holds g.S.Ruled.ring g.S.Ruled.lawful c.args.numeration.width.places c.args.numeration.width.some (elems c.args.numeration.digits.now) c.requires.full c.bound-last.result c.bound-last.ensures.reaches c.search.result c.search.ensures
