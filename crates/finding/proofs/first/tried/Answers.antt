use Rattle.std.proofs.Common.{◌≡◌, ap₂, w32, rules}
use Rattle.std.proofs.lemmas.Int.{to_z-of_z}
use Rattle.ring.specs.System.{size}
use Rattle.rounds.specs.Rounds.{Runs}
use Rattle.finding.specs.Finding.{point}
use Rattle.finding.proofs.Nested.{tried_is}
use Rattle.finding.proofs.first.tried.Goals as goal

pub returns-then-norm : goal.returns-then-norm
returns-then-norm g c =
    let next = g.D.Dynamics.next c.args.map.now in
    let s = g.D.Dynamics.ring c.args.map.now in
    let w = c.walk.ensures in
    let n = c.new.ensures in
    let z = ap₂ point (to_z-of_z w32 c.args.x c.ranges.x) (to_z-of_z w32 c.args.y c.ranges.y) in
    let e : size s (point c.args.x c.args.y) ≡ c.args.norm = search rules in
    let r : Runs next s (point c.args.x c.args.y) c.walk.result = search rules in
    tried_is next s c.args.norm (point c.args.x c.args.y) c.walk.result e r
