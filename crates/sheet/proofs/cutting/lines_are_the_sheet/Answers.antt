use Rattle.sheet.proofs.Splits.{lines_are_the_sheet}
use Rattle.sheet.proofs.cutting.lines_are_the_sheet.Goals as goal

pub returns : goal.returns
returns c = lines_are_the_sheet
