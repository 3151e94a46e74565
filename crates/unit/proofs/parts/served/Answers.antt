use Rattle.std.proofs.Common.{◌≡◌, ℕ, ◌<◌, ◌≤◌, ◌⊎◌, Some, None, Option, ⊎_elim, arith, MatchOption}
use Rattle.digits.specs.declared.width.Width.{Width}
use Rattle.rules.proofs.Serving.{widest_small}
use Rattle.unit.proofs.parts.served.Goals as goal

within : (p widest : ℕ) → 1 ≤ p → p ≤ widest → widest ≤ 8 → (o : Option Width) → MatchOption o ((1 ≤ p) × (p ≤ 8) → ⊥) (λ w. w.places ≡ p) →
    MatchOption o ((p ≡ 0) ⊎ (widest < p)) (λ w. (w.places ≡ p) × (((p ≡ 0) ⊎ (widest < p)) → ⊥))
within p widest a b d None n = absurd (n (a, omega arith))
within p widest a b d (Some w) e = (e, ⊎_elim (λ z. omega arith) (λ z. omega arith))

pub returns : goal.returns
returns g c =
    let a : 1 ≤ c.args.places = omega (arith, c.if-places-eq0.false) in
    let b : c.args.places ≤ g.S.Ruled.WIDEST = omega (arith, c.if-places-from.false, c.from.ensures, c.WIDEST.ensures) in
    within c.args.places g.S.Ruled.WIDEST a b (widest_small g.S.Ruled.ring g.S.Ruled.lawful g.S.Ruled.WIDEST g.S.Ruled.widths) c.new.result c.new.ensures
