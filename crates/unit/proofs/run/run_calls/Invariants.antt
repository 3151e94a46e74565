use Rattle.std.proofs.Common.{◌≡◌, map, reverse, take, drop}
use Rattle.rules.specs.Comes.{Comes}
use Rattle.rules.specs.declared.calls.Event.{Event}
use Rattle.unit.specs.Seen.{setting, view}
use Rattle.unit.proofs.run.run_calls.Given as goal

abbrev pub invariant-loop-i : goal.invariant-loop-i
invariant-loop-i g l =
    Comes (setting g.S.Ruled.ring g.S.Ruled.WIDEST g.S.Kind.Coordinate.LOADING g.S.Kind.Coordinate.WORKING) g.E.PointEngine.machine
    l.initial.unit.engine (reverse (take l.i l.log)) (view g.S.Kind.Coordinate.value l.unit)
    × (map (λ (e : Event). e.call) (take l.i l.log) ≡ take l.i l.calls)
    × (drop l.i l.log ≡ drop l.i l.initial.log)
    × (l.unit.system ≡ l.initial.unit.system)
