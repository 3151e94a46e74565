use Rattle.sets.proofs.classes.apart.Goals as goal

pub returns-then-all_odd : goal.returns-then-all_odd
returns-then-all_odd g c = (λ e. record { odd = c.all_odd.ensures.0 c.if-all_odd.true; apart = c.unlike.ensures.0 e }, λ a. c.unlike.ensures.1 a.apart)
