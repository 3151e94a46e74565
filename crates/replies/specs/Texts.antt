-- A text that grows in memory.
use Rattle.std.specs.Prelude.{◌≡◌, ℕ, ◌+◌, ◌≤◌, ◌⊎◌, List, ◌++◌, length, Option, Ok, Err, IfOk, IsOk, IsErr, option_map, vec_capacity, vec_items, vec_len}
use Rattle.std.specs.Result.{result_ok}
use Rattle.replies.specs.declared.text.Text.{Text}

-- the bytes that a text keeps, whether or not it has lost some
abbrev pub kept_of : Text → List ℕ
kept_of t = elim t.bytes [ Ok v ↦ vec_items v | Err v ↦ vec_items v ]

-- the bytes that a text holds, and none where it has lost some
abbrev pub held_of : Text → Option (List ℕ)
held_of t = option_map vec_items (result_ok t.bytes)

-- the text a was given the bytes, and is then the text b: where a has lost none and has room for them, b has lost none
abbrev pub Keeps : Text → Text → List ℕ → Type 0
Keeps a b bytes = IfOk a.bytes (λ v. vec_len v + length bytes ≤ vec_capacity v → IsOk b.bytes)

-- the text a was given the bytes, and is then the text b: b keeps them behind what a kept, or has lost some and keeps what a kept
abbrev pub Grows : Text → Text → List ℕ → Type 0
Grows a b bytes = (kept_of b ≡ kept_of a ++ bytes) ⊎ (IsErr b.bytes × (kept_of b ≡ kept_of a))
