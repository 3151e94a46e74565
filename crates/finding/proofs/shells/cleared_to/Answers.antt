use Rattle.std.proofs.Common.{◌≤◌, rules, arith}
use Rattle.finding.specs.Finding.{Shell}
use Rattle.finding.proofs.Sink.{sunk}
use Rattle.finding.proofs.shells.cleared_to.Goals as goal

pub returns : goal.returns
returns g c =
    let d = c.args.map.now in
    let r = c.sift.ensures in
    let n = c.new.ensures in
    let room : c.new.result.top ≤ c.args.bound = search rules in
    let f : Shell (g.D.Dynamics.next d) (g.D.Dynamics.ring d) c.args.norm c.sift.result = search rules in
    let e = sunk (g.D.Dynamics.ring d) (g.D.Dynamics.lawful d) (g.D.Dynamics.cap d) (g.D.Dynamics.small d) (g.D.Dynamics.next d) c.args.norm c.sift.result (omega (arith, room, r.down, c.requires.small.0)) c.requires.ends.0 f in
    record {
      down = omega (arith, room, r.down);
      ends = e;
    }
