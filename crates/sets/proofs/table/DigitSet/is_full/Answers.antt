use Rattle.std.proofs.Common.{◌≡◌, length, sym, ◌∙◌, subst}
use Rattle.std.proofs.lemmas.Bool.Decides.{Decides-eqb}
use Rattle.ring.specs.System.{classes}
use Rattle.ring.specs.Theorems.{Apart}
use Rattle.ring.proofs.Statements.{full_by_number_stands}
use Rattle.sets.specs.Held.{held}
use Rattle.sets.proofs.Distinct.{full_apart}
use Rattle.sets.proofs.table.DigitSet.is_full.Goals as goal

pub returns-then-len-class_count : goal.returns-then-len-class_count
returns-then-len-class_count g c =
    let s = g.S.Ruled.ring in
    let d = c.args.self.now in
    let w = d.width.places in
    let n : length (held d) ≡ classes s.p w = sym c.len.ensures.is ∙ c.if-len-class_count.true ∙ c.class_count.ensures in
    let v = c.numeration.ensures.width in (
      λ e. (full_by_number_stands s g.S.Ruled.lawful w d.width.some (held d) (subst (λ k. Apart s k (held d)) v (subst (Apart s c.numeration.result.width.places) c.numeration.ensures.digits (c.apart.ensures.0 e)))).0 n,
      λ f. c.apart.ensures.1 (subst (Apart s c.numeration.result.width.places) (sym c.numeration.ensures.digits) (subst (λ k. Apart s k (held d)) (sym v) (full_apart s w (held d) d.once f))),
    )

pub returns-else-len-class_count : goal.returns-else-len-class_count
returns-else-len-class_count g c =
    let s = g.S.Ruled.ring in
    let d = c.args.self.now in
    let w = d.width.places in (
      λ e. absurd (c.if-len-class_count.false ((Decides-eqb _ _).0 e)),
      λ f. absurd (c.if-len-class_count.false (c.len.ensures.is ∙ (full_by_number_stands s g.S.Ruled.lawful w d.width.some (held d) (full_apart s w (held d) d.once f)).1 f ∙ sym c.class_count.ensures)),
    )
