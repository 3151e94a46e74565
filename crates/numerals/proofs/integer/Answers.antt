use Rattle.std.proofs.Common.{◌≡◌, ◌≤◌, length, get_or, pos, ap, ◌∙◌, arith, w64, rules, ltb-true}
use Rattle.std.proofs.lemmas.Int.{to_z_pos}
use Rattle.numerals.proofs.integer.Goals.{In_default, in_default-via-then-bs-lt1, in_default-via-else-bs-lt1+in_default-1}
use Rattle.numerals.proofs.Digits.{counted_lt, bare_in, fits}
use Rattle.numerals.proofs.integer.Goals as goal

pub opposite-requires : goal.opposite-requires
opposite-requires c = counted_lt _ _ c.in_ok-natural-in-45.ensures

pub overflow_cast-result : goal.overflow_cast-result
overflow_cast-result c = fits _ (counted_lt c.args.bs.now _ c.in_ok-natural-in_default.ensures)

-- no minus in front
none : (c : goal.In_default) → 1 ≤ length c.args.bs.now → get_or c.args.bs.now 0 0 ≡ 45 → ⊥
none c h e =
    elim c.in_default.branch [
      | in_default-via-then-bs-lt1 w ↦ omega (arith, ltb-true)
      | in_default-via-else-bs-lt1+in_default-1 w ↦ search rules
    ]

pub returns-in_ok-natural-in_default : goal.returns-in_ok-natural-in_default
returns-in_ok-natural-in_default c =
    let bs = c.args.bs.now in
    let told = c.in_ok-natural-in_default.ensures in
    bare_in bs _ (none (goal.at.returns-in_ok-natural-in_default c).In_default) (told.0, to_z_pos w64 _ (omega (arith, counted_lt bs _ told)) ∙ ap pos told.1)
