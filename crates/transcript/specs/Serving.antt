-- What the parts of the program do to a unit and a sink.
use Rattle.std.specs.Prelude.{◌≡◌, ℕ, ◌≤◌, Bool, true, List, ◌∷◌, length, Some, Option, MatchBool}
use Rattle.ring.specs.Elem.{Elem}
use Rattle.engine.specs.Meaning.{Meaning}
use Rattle.engine.specs.declared.Point.{Point}
use Rattle.residue.specs.Made.{residue_machine, meaning_of}
use Rattle.residue.specs.declared.ResidueEngine.{ResidueEngine}
use Rattle.rules.specs.Views.{Setting, View}
use Rattle.rules.specs.History.{History, cleared, stood}
use Rattle.rules.specs.Comes.{Comes}
use Rattle.rules.specs.declared.calls.Standing.{Standing}
use Rattle.rules.specs.declared.calls.Standing.TheVariants as standing
use Rattle.rules.specs.declared.calls.Event.{Event}
use Rattle.listing.specs.Lines.{tick_line}
use Rattle.sheet.specs.Parting.{bytes, Split}
use Rattle.sheet.specs.declared.field.Field.{Field}
use Rattle.replies.specs.Asked.{Chosen}
use Rattle.replies.specs.declared.asking.Choice.{Choice}
use Rattle.replies.specs.Sinks.{Given}
use Rattle.transcript.specs.Transcript.{longest, Runs, loaded, tick_of, ticked}

-- the sheet is not too long, its first line chooses q, and rest is behind that line
pub record Opened (sheet : List ℕ) (q : Choice) (rest : Field) : Type 0 where
  pub whole : Field
  pub is : bytes whole ≡ sheet
  pub front : whole.place ≡ 0
  pub fits : length sheet ≤ longest
  pub line : Field
  pub split : Split 10 whole line rest
  pub chosen : Chosen line q.system q.modulus q.root q.start

-- from the unit v and the sink a to the unit w and the sink b
module _ {K : Type 0} (held : K → Option (List ℕ)) (k : Setting) (v w : View ResidueEngine) (a b : K) where
  -- of every history h that v comes from: w comes from a history g, and the sink was given a text, that P ties to h
  abbrev pub Serves : (Meaning Point → History → History → List ℕ → Type 0) → Type 0
  Serves P = (e : ResidueEngine) (h : History) → Comes k residue_machine e h v →
      (g : History) × ((text : List ℕ) × P (meaning_of e) h g text × Comes k residue_machine e g w × Given held a b text)

  -- of the history h: a run is on, and one tick is made and printed
  pub record Ticked (e : ResidueEngine) (h : History) : Type 0 where
    pub digit : Elem
    pub stands : Standing
    pub on : stood h ≡ standing.Running
    pub left : cleared stands ≡ true
    pub comes : Comes k residue_machine e (tick_of digit stands ∷ h) w
    pub given : Given held a b (tick_line digit.x digit.y)

  -- of the history h: no run is on, and nothing changes
  pub record Still (h : History) : Type 0 where
    pub off : ¬ (stood h ≡ standing.Running)
    pub unit : w ≡ v
    pub sink : b ≡ a

  -- of every history that v comes from: one tick if a run is on, as r says
  abbrev pub TicksOut : Bool → Type 0
  TicksOut r = (e : ResidueEngine) (h : History) → Comes k residue_machine e h v → MatchBool r (Ticked e h) (Still h)

  -- of every history that ends with the load of an element: its run is made to its end
  abbrev pub RunsOut : Type 0
  RunsOut = (e : ResidueEngine) (h : History) (x : Event) (z : Elem) → loaded x ≡ Some z → Comes k residue_machine e (x ∷ h) v →
      (ds : List Elem) × ((text : List ℕ) × Runs k (meaning_of e) h z ds text × Comes k residue_machine e (ticked ds (x ∷ h)) w × Given held a b text)
