-- Nine sets worked out by hand, with their verdicts, and two expansions.
use Rattle.std.specs.Prelude.{ℕ, List, [], ◌∷◌, ℤ, pos, negsuc}
use Rattle.std.specs.List.{ContainsAt as Has, AllByRecursion}
use Rattle.ring.specs.Elem.{Elem, 𝟘}
use Rattle.ring.specs.System.{System, Lawful}
use Rattle.ring.specs.Class.{Full}
use Rattle.ring.specs.Expansion.{Expands}
use Rattle.systems.specs.Named.{kp, km, g5}
use Rattle.ring.specs.Verdict.{Verdict, cleared, barred, Holds}

abbrev pub at : ℤ → ℤ → Elem
at a b = record { x = a; y = b }

abbrev pub -1 : ℤ
-1 = negsuc 0

abbrev pub -3 : ℤ
-3 = negsuc 2

pub record Shown : Type 0 where
  pub element : Elem
  pub entries : List Elem

pub record Case : Type 0 where
  pub system : System
  pub width : ℕ
  pub digits : List Elem
  pub verdict : Verdict
  pub shown : List Shown

-- the system is lawful, the set is full, its verdict holds, and each element shown has those entries as its expansion
abbrev pub Right : Case → Type 0
Right c = record {
  lawful : Lawful c.system;
  full : Full c.system c.width (Has c.digits);
  verdict : Holds c.system c.width (Has c.digits) c.verdict;
  shown : AllByRecursion (λ e. Expands c.system c.width (Has c.digits) e.element e.entries) c.shown;
}

abbrev pub cases : List Case
cases =
    record {
      system = kp;
      width = 2;
      digits = at (pos 1) (pos 0) ∷ at -1 (pos 0) ∷ [];
      verdict = cleared;
      shown = record { element = at (pos 9) (pos 0); entries = at (pos 1) (pos 0) ∷ 𝟘 ∷ 𝟘 ∷ at -1 (pos 0) ∷ 𝟘 ∷ at (pos 1) (pos 0) ∷ [] } ∷ [];
    } ∷
    record { system = km; width = 2; digits = at (pos 1) (pos 0) ∷ at -1 (pos 0) ∷ []; verdict = cleared; shown = [] } ∷
    record { system = kp; width = 1; digits = at (pos 1) -1 ∷ []; verdict = barred (at -1 (pos 0)) 2 1; shown = [] } ∷
    record { system = km; width = 1; digits = at (pos 1) -1 ∷ []; verdict = barred (at -1 (pos 0)) 0 3; shown = [] } ∷
    record { system = km; width = 3; digits = at (pos 1) (pos 0) ∷ at -1 (pos 0) ∷ at (pos 3) (pos 1) ∷ at (pos 1) (pos 1) ∷ []; verdict = barred (at -1 -1) 0 3; shown = [] } ∷
    record { system = kp; width = 3; digits = at (pos 1) (pos 0) ∷ at -1 (pos 0) ∷ at (pos 3) -1 ∷ at -3 (pos 1) ∷ []; verdict = barred (at -1 (pos 1)) 0 6; shown = [] } ∷
    record { system = km; width = 3; digits = at (pos 1) (pos 0) ∷ at -1 (pos 0) ∷ at (pos 1) (pos 1) ∷ at -1 -1 ∷ []; verdict = cleared; shown = [] } ∷
    record {
      system = g5;
      width = 1;
      digits = at (pos 1) (pos 0) ∷ at -1 (pos 0) ∷ at (pos 0) (pos 1) ∷ at (pos 0) -1 ∷ [];
      verdict = cleared;
      shown = record { element = at (pos 2) (pos 0); entries = at (pos 0) -1 ∷ at (pos 1) (pos 0) ∷ [] } ∷ [];
    } ∷
    record { system = g5; width = 1; digits = at -1 -1 ∷ at -1 (pos 0) ∷ at (pos 0) (pos 1) ∷ at (pos 0) -1 ∷ []; verdict = barred (at (pos 1) (pos 0)) 0 1; shown = [] } ∷ []

abbrev pub WorkedCases : Type 0
WorkedCases = AllByRecursion Right cases
