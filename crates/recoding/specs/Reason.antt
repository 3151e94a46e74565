-- Why an element was not recoded, for a reader.
use Rattle.std.specs.Prelude.{ℕ, List, codes}
use Rattle.recoding.specs.declared.entry.Unexpanded.{Unexpanded}
use Rattle.recoding.specs.declared.entry.Unexpanded.TheVariants.{Even, Stuck, Spent}

abbrev pub reason_of : Unexpanded → List ℕ
reason_of Even = codes "the base divides a digit"
reason_of (Stuck steps) = codes "no digit is of the remainder's class"
reason_of Spent = codes "the budget of digits is spent"
