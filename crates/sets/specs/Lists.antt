-- Lists of elements.
use Rattle.std.specs.Prelude.{ℕ, ◌<◌, ◌≤◌, List, [], ◌∷◌, ◌++◌, length, ◌≢◌, slice_index_or}
use Rattle.std.specs.List.{ContainsAt as Has, remove}
use Rattle.ring.specs.Elem.{Elem, 𝟘}
use Rattle.ring.specs.System.{System, Lawful, Widths}
use Rattle.ring.specs.Class.{Even, SameClass, Classed}
use Rattle.ring.specs.Theorems.{Apart}

-- none stands twice
abbrev pub Different : List Elem → Type 0
Different ds = (i j : ℕ) → i < j → j < length ds → slice_index_or ds i 𝟘 ≢ slice_index_or ds j 𝟘

-- no two are of one class
abbrev pub Unlike : System → ℕ → List Elem → Type 0
Unlike s w ds = (i j : ℕ) → i < j → j < length ds → ¬ (SameClass s w (slice_index_or ds i 𝟘) (slice_index_or ds j 𝟘))

-- digits of different classes stay so with one more of a new class and with one less, and at a width that the system serves there is room for one more
abbrev pub StaysApart : Type 0
StaysApart = (s : System) → Lawful s → (w : ℕ) → 1 ≤ w → (ds : List Elem) → Apart s w ds → record {
  more : (z : Elem) → ¬ (Even s z) → ¬ (Classed s w (Has ds) z) → Apart s w (ds ++ z ∷ []);
  less : (k : ℕ) → k < length ds → Apart s w (remove ds k);
  room : (widest : ℕ) → Widths s.p widest → w ≤ widest → (z : Elem) → ¬ (Even s z) → ¬ (Classed s w (Has ds) z) → length ds < 128;
}
