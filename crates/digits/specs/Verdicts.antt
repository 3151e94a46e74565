-- The verdict of the ring that a verdict of the code stands for.
use Rattle.std.specs.Prelude.{ℕ, List, ◌++◌, codes, decimal}
use Rattle.std.specs.Fmt.{signed_decimal}
use Rattle.ring.specs.Verdict.{cleared, barred}
use Rattle.ring.specs.Verdict as ring
use Rattle.numbers.specs.Meaning.{short}
use Rattle.digits.specs.declared.verdict.Verdict.{Verdict}
use Rattle.digits.specs.declared.verdict.Verdict.TheVariants.{Cleared, Barred}

abbrev pub verdict_of : Verdict → ring.Verdict
verdict_of Cleared = cleared
verdict_of (Barred first lead period) = barred (short first) lead period

-- how a verdict is printed for a reader, with decimal numbers
abbrev pub verdict_text : Verdict → List ℕ
verdict_text Cleared = codes "cleared"
verdict_text (Barred first lead period) =
    codes "barred " ++ signed_decimal first.x ++ codes "," ++ signed_decimal first.y ++ codes " " ++ decimal lead ++ codes " " ++ decimal period
