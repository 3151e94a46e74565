-- The same bytes are no two different lines.
use Rattle.std.proofs.Common.{◌≡◌, ℕ, zero, suc, ◌<◌, List, [], ◌∷◌, ◌++◌, length, ℤ, sym, ap, ◌∙◌, append_assoc, arith}
use Rattle.std.specs.List.{AllByRecursion}
use Rattle.numerals.specs.Laws.{counts_apart, reads_apart}
use Rattle.numerals.specs.Numeral.{Counts, Reads}
use Rattle.sheet.specs.declared.field.Field.{Field}
use Rattle.sheet.specs.declared.line.Line.{Line}
use Rattle.sheet.specs.declared.line.Line.TheVariants.{System, Width, Put, Take, Check, Load}
use Rattle.sheet.specs.Parting.{bytes, Free}
use Rattle.sheet.specs.Shape.{name_of, parts_of, Shape}
use Rattle.sheet.proofs.Splits.{same_parts, not_free}
use Rattle.sheet.proofs.Commas.{apart_free, name_free}

-- parts with commas between them
abbrev commas : List (List ℕ) → List ℕ
commas [] = []
commas (a ∷ []) = a
commas (a ∷ b ∷ more) = a ++ (44 ∷ commas (b ∷ more))

same_commas : (more bs : List (List ℕ)) → AllByRecursion (Free 44) more → AllByRecursion (Free 44) bs → 0 < length more → 0 < length bs → commas more ≡ commas bs → more ≡ bs
same_commas [] bs f g m n e = absurd (omega arith)
same_commas (a ∷ more) [] f g m n e = absurd (omega arith)
same_commas (a ∷ []) (b ∷ []) f g m n e = ap (λ x. x ∷ []) e
same_commas (a ∷ []) (b ∷ c ∷ bs) f g m n e = absurd (not_free 44 a b (commas (c ∷ bs)) e f.0)
same_commas (a ∷ c ∷ more) (b ∷ []) f g m n e = absurd (not_free 44 b a (commas (c ∷ more)) (sym e) g.0)
same_commas (a ∷ c ∷ more) (b ∷ d ∷ bs) f g m n e =
    let same = same_parts 44 a b (commas (c ∷ more)) (commas (d ∷ bs)) e f.0 g.0 in
    let rest = same_commas (c ∷ more) (d ∷ bs) f.1 g.1 (omega arith) (omega arith) same.1 in
    (λ i. same.0 i ∷ rest i)

line_commas : (p : ℕ) (s : List ℕ) (l : Line) → Shape p s l → s ≡ commas (parts_of l)
line_commas p s (System d m r g) (u, e, h) =
    e ∙ ap (λ l. 83 ∷ 44 ∷ l) (append_assoc (name_of d) (44 ∷ []) u ∙ ap (λ l. name_of d ++ (44 ∷ l)) h.0)
line_commas p s (Width w) (u, e, h) = e ∙ ap (λ l. 87 ∷ 44 ∷ l) h.0
line_commas p s (Put x y) (u, e, h) = e ∙ ap (λ l. 68 ∷ 44 ∷ l) h.0
line_commas p s (Take x y) (u, e, h) = e ∙ ap (λ l. 88 ∷ 44 ∷ l) h.0
line_commas p s Check (u, e, h) = e ∙ ap (λ l. 67 ∷ l) h.0
line_commas p s (Load x y) (u, e, h) = e ∙ ap (λ l. 90 ∷ 44 ∷ l) h.0

one_free : (x : ℕ) → (x ≡ 44 → ⊥) → Free 44 (x ∷ [])
one_free x n zero lt e = n e
one_free x n (suc k) lt e = omega arith

counts_free : (f : Field) (n : ℕ) → Counts (bytes f) n → Free 44 (bytes f)
counts_free f n h = apart_free (bytes f) (counts_apart (bytes f) n h)

reads_free : (f : Field) (z : ℤ) → Reads (bytes f) z → Free 44 (bytes f)
reads_free f z h = apart_free (bytes f) (reads_apart (bytes f) z h)

line_free : (p : ℕ) (s : List ℕ) (l : Line) → Shape p s l → AllByRecursion (Free 44) (parts_of l)
line_free p s (System d m r g) (u, e, h) =
    (one_free 83 (λ i. omega arith), (name_free d, (counts_free m.field m.value m.denotes, (counts_free r.field r.value r.denotes, (counts_free g.field g.value g.denotes, tt)))))
line_free p s (Width w) (u, e, h) = (one_free 87 (λ i. omega arith), (counts_free w.field w.value w.denotes, tt))
line_free p s (Put x y) (u, e, h) =
    (one_free 68 (λ i. omega arith), (reads_free x.field x.value x.denotes, (reads_free y.field y.value y.denotes, tt)))
line_free p s (Take x y) (u, e, h) =
    (one_free 88 (λ i. omega arith), (reads_free x.field x.value x.denotes, (reads_free y.field y.value y.denotes, tt)))
line_free p s Check (u, e, h) = (one_free 67 (λ i. omega arith), tt)
line_free p s (Load x y) (u, e, h) =
    (one_free 90 (λ i. omega arith), (reads_free x.field x.value x.denotes, (reads_free y.field y.value y.denotes, tt)))

some_parts : (l : Line) → 0 < length (parts_of l)
some_parts (System d m r g) = omega arith
some_parts (Width w) = omega arith
some_parts (Put x y) = omega arith
some_parts (Take x y) = omega arith
some_parts Check = omega arith
some_parts (Load x y) = omega arith

pub one_shape : (p q : ℕ) (s : List ℕ) (k l : Line) → Shape p s k → Shape q s l → parts_of k ≡ parts_of l
one_shape p q s k l a b =
    same_commas (parts_of k) (parts_of l) (line_free p s k a) (line_free q s l b) (some_parts k) (some_parts l) (sym (line_commas p s k a) ∙ line_commas q s l b)
