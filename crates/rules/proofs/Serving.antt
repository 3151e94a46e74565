-- What a unit's own functions need: when a step that cannot be taken stops a run, and how wide the widest width is.
use Rattle.std.proofs.Common.{ℕ, ◌-◌, ◌*◌, ◌^◌, ◌≤◌, List, inl, inr, mul-le-mul_right, arith}
use native.Mathlib.Decide.{dec_lt}
use Rattle.ring.specs.Elem.{Elem}
use Rattle.ring.specs.System.{System, Lawful, Widths}
use Rattle.digits.specs.Stepping.{Stuck}
use Rattle.rules.specs.Told.{Stopped}
use Rattle.rules.proofs.Digits.{power_more, power_base}

pub stuck_stops : (s : System) (limit w : ℕ) (ds : List Elem) (z : Elem) → Stuck s limit w ds z → Stopped s limit w ds z
stuck_stops s limit w ds z (inl n) d r b q = n b
stuck_stops s limit w ds z (inr n) d r b (inl q) = n.0 q.0
stuck_stops s limit w ds z (inr n) d r b (inr q) = n.1 d q.1 q.2

-- no system serves a width above 8
pub widest_small : (s : System) → Lawful s → (widest : ℕ) → Widths s.p widest → widest ≤ 8
widest_small s g widest o = elim (dec_lt widest 9) [ yes l ↦ (omega arith) | no n ↦ absurd (wide (omega arith)) ]
  where
    wide : 9 ≤ widest → ⊥
    wide l =
        let p = g.p_low in
        let f = o.few in
        let a : 2 ^ 8 ≤ s.p ^ 8 = power_base 2 s.p 8 p in
        let b : s.p ^ 8 ≤ s.p ^ (widest - 1) = power_more s.p 8 (widest - 1) (omega arith) (omega arith) in
        let c : 1 * s.p ^ (widest - 1) ≤ (s.p - 1) * s.p ^ (widest - 1) = mul-le-mul_right (s.p ^ (widest - 1)) (omega arith) in
        omega arith
