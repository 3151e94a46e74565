use Rattle.std.proofs.Common.{◌+◌, ◌≤◌, length}
use Rattle.rules.specs.History.{History}
use Rattle.rules.specs.Comes.{Comes}
use Rattle.residue.specs.declared.ResidueEngine.{ResidueEngine}
use Rattle.sheet.specs.Parting.{bytes, Within}
use Rattle.unit.specs.Seen.{setting, view}
use Rattle.residue.specs.Made.{residue_machine}
use Rattle.transcript.specs.Transcript.{longest}
use Rattle.transcript.proofs.Progress.{Progress}
use Rattle.transcript.proofs.following.follow.Given as goal

abbrev pub invariant-loop-line : goal.invariant-loop-line
invariant-loop-line g l =
    Within l.left
    × (l.number + length (bytes l.left) ≤ longest + 2)
    × ((e : ResidueEngine) (h : History) →
    Comes (setting g.S.Ruled.ring g.S.Ruled.WIDEST g.S.Kind.Coordinate.LOADING g.S.Kind.Coordinate.WORKING) residue_machine e h (view g.S.Kind.Coordinate.value l.initial.unit) →
    Progress g.K.Sink.held (setting g.S.Ruled.ring g.S.Ruled.WIDEST g.S.Kind.Coordinate.LOADING g.S.Kind.Coordinate.WORKING) e h l.initial.left l.initial.out l.left l.number (view g.S.Kind.Coordinate.value l.unit) l.out)

abbrev pub decreases-loop-line : goal.decreases-loop-line
decreases-loop-line g l = length (bytes l.left)
