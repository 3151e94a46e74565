use Rattle.rules.proofs.Keeps.{keeps}
use Rattle.unit.proofs.Sounds.{sound}
use Rattle.unit.proofs.unit.Unit.perform.Goals as goal

pub returns-clause-kept : goal.returns-clause-kept
returns-clause-kept g c =
    keeps _ _ (sound g.S.Ruled.ring g.S.Ruled.WIDEST g.S.Kind.Coordinate.LOADING g.S.Kind.Coordinate.WORKING g.S.Ruled.lawful g.S.Ruled.widths g.met.S.Kind.Coordinate.limits) g.met.E.PointEngine.lawful _ _ c.args.call c.answer_to.result c.answer_to.ensures.told
