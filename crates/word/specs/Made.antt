-- What the making of a word engine answers.
use Rattle.std.specs.Prelude.{◌≡◌, ℕ, ℤ, Ok, Err, Result}
use Rattle.refusals.specs.declared.Refusal.{Refusal}
use Rattle.refusals.specs.declared.Refusal.TheVariants as refusal
use Rattle.engine.specs.Meaning.{Meaning, Machine}
use Rattle.engine.specs.Rings.{InRing}
use Rattle.engine.specs.declared.Point.{Point}
use Rattle.word.specs.Word.{words, word}
use Rattle.word.specs.declared.WordEngine.{WordEngine}
use Rattle.word.specs.declared.Words.{Words}

abbrev pub point_of : Words → Point
point_of w = words w.u w.v

abbrev pub meaning_of : WordEngine → Meaning Point
meaning_of e = word e.ring.t e.ring.n e.start.u e.start.v

-- word engines, with what each means, its total and its current point
abbrev pub word_machine : Machine WordEngine Point
word_machine = record { meaning = meaning_of; total_of = λ e. point_of e.total; current_of = λ e. point_of e.current }

-- Root (13) exactly where t or n is out of range, else an engine of these numbers, its total zero and its current point the start point
abbrev pub Made : ℤ → ℤ → ℕ → ℕ → Result WordEngine Refusal → Type 0
Made t n u v (Ok e) = InRing t n × (meaning_of e ≡ word t n u v) × (point_of e.total ≡ words 0 0) × (point_of e.current ≡ words u v)
Made t n u v (Err e) = (e ≡ refusal.Root) × ¬ InRing t n
