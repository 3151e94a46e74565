use Rattle.numbers.specs.Meaning.{short}
use Rattle.rounds.proofs.Orders.{near}
use Rattle.rounds.proofs.dynamics.Dynamics.rank.Goals as goal

pub norm-requires : goal.norm-requires
norm-requires g c = let d = c.args.self.now in near (g.Self.Dynamics.ring d) (g.Self.Dynamics.lawful d) (g.Self.Dynamics.cap d) (g.Self.Dynamics.small d) (short c.args.z) c.requires
