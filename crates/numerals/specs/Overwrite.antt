-- Bytes written over others.
use Rattle.std.specs.Prelude.{ℕ, ◌+◌, List, ◌++◌, length, take, drop}

-- s with xs in place of the bytes from place at on
unfoldable pub overwrite : List ℕ → ℕ → List ℕ → List ℕ
overwrite s at xs = take at s ++ (xs ++ drop (at + length xs) s)
