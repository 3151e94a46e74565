use Rattle.std.proofs.Common.{[], ◌∷◌}
use Rattle.sheet.proofs.Commas.{named_none, named_out}
use Rattle.sheet.proofs.Heads.{no_system}
use Rattle.sheet.proofs.reading.system.Goals as goal

pub returns-in_err-name : goal.returns-in_err-name
returns-in_err-name c =
    rw c.from_residual.ensures (no_system _ _ (λ s m r g h n. named_none _ _ c.in_err-name.ensures s (m ∷ r ∷ g ∷ []) h))

pub returns-in_err-system : goal.returns-in_err-system
returns-in_err-system c =
    rw c.from_residual-in_err-system.ensures (no_system _ _ (λ s m r g h n.
    c.in_err-system.ensures s (named_out _ _ _ c.in_ok-name.ensures s (m ∷ r ∷ g ∷ []) h).0))
