-- That bytes denote a number: it has one proof at most, and no comma stands in the bytes. The impls of `Numeral` cite these, and an impl cites no file of proofs/.
use Rattle.std.specs.Prelude.{◌≡◌, ℕ, ◌<◌, Bool, true, false, List, [], ◌∷◌, map, ℤ, pos, neg_ℤ, MatchBool, ◌==◌}
use Rattle.std.specs.Coded.{×_prop, le_prop, Coded-set, coded_ℕ, coded_ℤ}
use Rattle.std.specs.List.{AllByRecursion-prop}
use Rattle.std.specs.Int.Digits.{AllBelowBase}
use Rattle.std.proofs.Common.{subst, lt_irrefl}
use Rattle.numerals.specs.Numeral.{hex_value, value, Plain, Counts, Bare, Minus, Reads, NoComma}

plain_once : (bs : List ℕ) → IsProp (Plain bs)
plain_once bs p q = λ i.
    record {
      some = le_prop p.some q.some i;
      few = le_prop p.few q.few i;
      digits = AllByRecursion-prop (λ d. d < 16) (λ d. le_prop) (map hex_value bs) p.digits q.digits i;
      lean = λ h. le_prop (p.lean h) (q.lean h) i;
    }

pub counts_once : (bs : List ℕ) (n : ℕ) → IsProp (Counts bs n)
counts_once bs n = ×_prop (plain_once bs) (Coded-set coded_ℕ n (value bs))

behind_once : (b : Bool) (c : ℕ) (cs : List ℕ) (z : ℤ) → IsProp (MatchBool b (Minus cs z) (Bare (c ∷ cs) z))
behind_once true c cs z p q = λ i.
    (plain_once cs p.0 q.0 i, le_prop p.1 q.1 i, Coded-set coded_ℤ z (neg_ℤ (pos (value cs))) p.2 q.2 i)
behind_once false c cs z p q = λ i.
    (plain_once (c ∷ cs) p.0 q.0 i, Coded-set coded_ℤ z (pos (value (c ∷ cs))) p.1 q.1 i)

pub reads_once : (bs : List ℕ) (z : ℤ) → IsProp (Reads bs z)
reads_once [] z p q = absurd p
reads_once (c ∷ cs) z p q = behind_once (c == 45) c cs z p q

-- a comma is no digit
no_digit : (c : ℕ) → hex_value c < 16 → c ≡ 44 → ⊥
no_digit c h e = lt_irrefl 16 (subst (λ b. hex_value b < 16) e h)

digits_apart : (bs : List ℕ) → AllBelowBase 16 (map hex_value bs) → NoComma bs
digits_apart [] h = tt
digits_apart (c ∷ cs) h = (no_digit c h.0, digits_apart cs h.1)

pub counts_apart : (bs : List ℕ) (n : ℕ) → Counts bs n → NoComma bs
counts_apart bs n h = digits_apart bs h.0.digits

behind_apart : (b : Bool) (c : ℕ) (cs : List ℕ) (z : ℤ) → MatchBool b (Minus cs z) (Bare (c ∷ cs) z) → NoComma cs
behind_apart true c cs z h = digits_apart cs h.0.digits
behind_apart false c cs z h = (digits_apart (c ∷ cs) h.0.digits).1

pub reads_apart : (bs : List ℕ) (z : ℤ) → Reads bs z → NoComma bs
reads_apart [] z h = absurd h
reads_apart (c ∷ cs) z h =
    (λ e. no_digit 44 (subst (λ b. Reads (b ∷ cs) z) e h).0.digits.0 (λ i. 44), behind_apart (c == 45) c cs z h)
