use Rattle.std.proofs.Common.{◌≡◌, ◌-◌, ◌^◌, ◌∷◌, Some}
use Rattle.ring.specs.Elem.{Elem}
use Rattle.residue.specs.declared.ResidueEngine.{ResidueEngine}
use Rattle.rules.specs.History.{History}
use Rattle.rules.specs.Comes.{Comes}
use Rattle.rules.specs.declared.calls.Event.{Event}
use Rattle.unit.specs.Seen.{setting, view}
use Rattle.residue.specs.Made.{residue_machine}
use Rattle.transcript.specs.Transcript.{loaded}
use Rattle.transcript.proofs.Courses.{Course}
use Rattle.transcript.proofs.running.run_out.Given as goal

abbrev pub invariant-loop-ticks : goal.invariant-loop-ticks
invariant-loop-ticks g l =
    (l.ticks ≡ l.unit.ticks)
    × ((e : ResidueEngine) (h : History) (x : Event) (z : Elem) → loaded x ≡ Some z →
    Comes (setting g.S.Ruled.ring g.S.Ruled.WIDEST g.S.Kind.Coordinate.LOADING g.S.Kind.Coordinate.WORKING) residue_machine e (x ∷ h) (view g.S.Kind.Coordinate.value l.initial.unit) →
    Course g.K.Sink.held (setting g.S.Ruled.ring g.S.Ruled.WIDEST g.S.Kind.Coordinate.LOADING g.S.Kind.Coordinate.WORKING) e h x (view g.S.Kind.Coordinate.value l.unit) l.initial.out l.out)

abbrev pub decreases-loop-ticks : goal.decreases-loop-ticks
decreases-loop-ticks g l = 2 ^ 32 - l.unit.ticks
