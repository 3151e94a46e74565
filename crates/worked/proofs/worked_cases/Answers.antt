use Rattle.worked.specs.Worked.{cases}
use Rattle.worked.proofs.Judging.{all_right_is}
use Rattle.worked.proofs.worked_cases.Goals as goal

pub returns : goal.returns
returns c = all_right_is cases tt
