-- How a point is printed.
use Rattle.std.specs.Prelude.{ℕ, List, ◌∷◌, ◌++◌}
use Rattle.std.specs.Fmt.{signed_decimal}
use Rattle.engine.specs.declared.Point.{Point}

-- both numbers in decimal, with a comma between them
abbrev pub text_of : Point → List ℕ
text_of p = signed_decimal p.u ++ 0x2c ∷ signed_decimal p.v
