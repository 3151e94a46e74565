use Rattle.std.proofs.Common.{◌<◌, sym, ◌∙◌, subst, arith, rules, length-set}
use Rattle.digits.specs.Digits.{elem_of}
use Rattle.sets.specs.Lists.{Different}
use Rattle.sets.specs.Held.{held}
use Rattle.sets.proofs.Holding.{number, pushed, different_push}
use Rattle.sets.proofs.table.DigitSet.push.Goals as goal

pub invariant_of-self : goal.invariant_of-self
invariant_of-self c =
    let s = c.args.self.now in
    let d = c.args.digit in
    let l : s.count < 128 = omega (arith, number s, c.requires.room) in
    record {
      whole = length-set s.table s.count _ ∙ s.whole;
      most = omega arith;
      once = subst Different (sym (pushed s _ d l (search rules))) (different_push (held s) (elem_of d) s.once c.requires.other);
    }
