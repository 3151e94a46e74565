-- A unit that came from a new one by calls, and what each further call leaves.
use Rattle.std.specs.Prelude.{◌≡◌, [], ◌∷◌}
use Rattle.rules.specs.Views.{Setting, Machine, View, new}
use Rattle.rules.specs.Told.{Tells}
use Rattle.rules.specs.History.{History, After}
use Rattle.rules.specs.declared.calls.Standing.{Standing}
use Rattle.rules.specs.declared.calls.Answer.{Answer}
use Rattle.rules.specs.declared.calls.Call.{Call}
use Rattle.rules.specs.declared.calls.Event.{Event}

abbrev pub event : Call → Answer → Standing → Event
event c a s = record { call = c; answer = a; standing = s }

module _ {E C : Type 0} (k : Setting) (M : Machine E C) where
  -- w is a unit after the history, over a new one with the engine e
  abbrev pub Comes : E → History → View E → Type 0
  Comes e [] w = w ≡ new e
  Comes e (x ∷ h) w = (v : View E) × Comes e h v × Tells k M v w x.call x.answer × (x.standing ≡ w.standing)

  -- what is to hold after h holds of the unit w, and of some unit after each of the shorter histories that h went through
  abbrev pub Throughout : E → History → View E → Type 0
  Throughout e [] w = After k M e [] w
  Throughout e (x ∷ h) w = After k M e (x ∷ h) w × ((v : View E) × Throughout e h v)

  -- the unit w after the call c with the answer a comes from every history of the unit v with this event, and what is to hold after it holds
  abbrev pub Kept : View E → View E → Call → Answer → Type 0
  Kept v w c a = (e : E) (h : History) → Comes e h v → Comes e (event c a w.standing ∷ h) w × After k M e (event c a w.standing ∷ h) w
