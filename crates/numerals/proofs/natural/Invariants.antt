use Rattle.std.proofs.Common.{◌≡◌, map, take}
use Rattle.std.specs.Int.Digits.{AllBelowBase}
use Rattle.numerals.specs.Numeral.{hex_value, value}
use Rattle.numerals.proofs.natural.Given as goal

abbrev pub invariant-loop-b : goal.invariant-loop-b
invariant-loop-b l = (l.n ≡ value (take l.b-index l.bs)) × AllBelowBase 16 (map hex_value (take l.b-index l.bs))
