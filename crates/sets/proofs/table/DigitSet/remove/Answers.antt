use Rattle.std.proofs.Common.{◌≡◌, ◌-◌, ◌<◌, take, sym, ◌∙◌, subst, arith, rules}
use Rattle.std.specs.List.{remove}
use Rattle.digits.specs.Digits.{elems}
use Rattle.sets.specs.Lists.{Different}
use Rattle.sets.specs.Held.{held}
use Rattle.sets.proofs.Holding.{number, removed, different_removed}
use Rattle.sets.proofs.table.DigitSet.remove.Goals as goal
use Rattle.sets.proofs.table.DigitSet.remove.Goals.{After-copy_within}

-- what is held after the later digits are moved down
left : (c : After-copy_within) → elems (take (c.args.self.now.count - 1) c.copy_within.new.self) ≡ remove (held c.args.self.now) c.args.place
left c =
    let s = c.args.self.now in
    let l : c.args.place < s.count = omega (arith, number s, c.requires) in
    removed s c.copy_within.new.self c.args.place l (search rules)

pub invariant_of-self : goal.invariant_of-self
invariant_of-self c =
    let s = c.args.self.now in
    record {
      whole = c.copy_within.ensures.len ∙ s.whole;
      most = omega (arith, s.most);
      once = subst Different (sym (left (goal.at.invariant_of-self c).After-copy_within)) (different_removed (held s) c.args.place c.requires s.once);
    }

pub returns-clause-less : goal.returns-clause-less
returns-clause-less c = left (goal.at.returns-clause-less c).After-copy_within
