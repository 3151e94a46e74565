use Rattle.std.proofs.Common.{◌∙◌}
use Rattle.ring.specs.System.{size}
use Rattle.ring.proofs.Norms.{size_is}
use Rattle.numbers.specs.Meaning.{short}
use Rattle.verdict.proofs.Sizes.{norm_small, cast_fits, cast_is}
use Rattle.verdict.proofs.bounds.norm_in.Goals as goal

pub overflow_cast-result : goal.overflow_cast-result
overflow_cast-result g c =
    let s = g.S.Ruled.ring in
    let law = g.S.Ruled.lawful in
    let z = short c.args.z in
    cast_fits c.norm_of.result (size s z) (c.norm_of.ensures ∙ size_is s law z) (norm_small s law z c.requires)

pub returns : goal.returns
returns g c =
    let s = g.S.Ruled.ring in
    let law = g.S.Ruled.lawful in
    let z = short c.args.z in
    cast_is c.norm_of.result (size s z) (c.norm_of.ensures ∙ size_is s law z) (norm_small s law z c.requires)
