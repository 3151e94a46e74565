-- A word under a mask.
use Rattle.std.proofs.Common.{◌≡◌, ℕ, ◌^◌, ◌<◌, Bool, true, false, cond, ◌∙◌, mod-eq_of_lt}
use lib.Bits.{bit_and}
use Rattle.std.proofs.lemmas.Nat.{and_mask, and_comm}

-- all ones keep the word, and zeros none of it
pub masked : (b : Bool) (w : ℕ) → w < 2 ^ 32 → bit_and w (cond b 0xffff_ffff 0) ≡ cond b w 0
masked true w h = and_mask w 32 ∙ mod-eq_of_lt h
masked false w h = and_comm w 0
