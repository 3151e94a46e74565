-- What the listing of a sheet is.
use Rattle.std.specs.Prelude.{◌≡◌, ℕ, ◌+◌, ◌<◌, ◌≤◌, cond, ◌⊎◌, List, [], ◌∷◌, ◌++◌, length, pos, Some, None, Option, MatchOption}
use Rattle.ring.specs.Elem.{Elem}
use Rattle.ring.specs.Expansion.{Expands}
use Rattle.numbers.specs.Meaning.{short}
use Rattle.engine.specs.Meaning.{Meaning, act}
use Rattle.engine.specs.declared.Point.{Point}
use Rattle.refusals.specs.Rows.{Uppermost, Unfit}
use Rattle.refusals.specs.declared.Refusal.{Refusal}
use Rattle.refusals.specs.declared.Refusal.TheVariants as refusal
use Rattle.rules.specs.Views.{Setting, ring_of}
use Rattle.rules.specs.History.{History, accepted, width, Holding, Answered}
use Rattle.rules.specs.Comes.{event}
use Rattle.rules.specs.declared.calls.Standing.{Standing}
use Rattle.rules.specs.declared.calls.Standing.TheVariants as standing
use Rattle.rules.specs.declared.calls.Answer.TheVariants as answer
use Rattle.rules.specs.declared.calls.Call.{Call}
use Rattle.rules.specs.declared.calls.Call.TheVariants as call
use Rattle.rules.specs.declared.calls.Event.{Event}
use Rattle.listing.specs.Lines.{system_line, tick_line, run_line, refusal_line}
use Rattle.sheet.specs.Parting.{bytes, Free, Split, Lines}
use Rattle.sheet.specs.declared.field.Field.{Field}
use Rattle.sheet.specs.declared.line.System.{System}
use Rattle.replies.specs.Asked.{Asks, Chosen}
use Rattle.replies.specs.Reply.{answer_line}
use Rattle.transcript.specs.Engines.{setting_of, engine_of, engine_rows}

-- the most bytes of a sheet
abbrev pub longest : ℕ
longest = 32768

-- a line for each digit
abbrev pub tick_lines : List Elem → List ℕ
tick_lines [] = []
tick_lines (d ∷ ds) = tick_line d.x d.y ++ tick_lines ds

-- how the unit stands after a tick that these digits follow
abbrev pub stands_before : List Elem → Standing
stands_before [] = standing.Cleared
stands_before (d ∷ ds) = standing.Running

-- a tick that answers the digit d, and leaves the unit standing at s
abbrev pub tick_of : Elem → Standing → Event
tick_of d s = event call.Tick (answer.Digit (record { x = d.x; y = d.y })) s

-- the history with a tick for each of the digits
abbrev pub ticked : List Elem → History → History
ticked [] h = h
ticked (d ∷ ds) h = ticked ds (tick_of d (stands_before ds) ∷ h)

abbrev pub element_of : Call → Option Elem
element_of (call.Width w) = None
element_of (call.Put x y) = None
element_of (call.Take x y) = None
element_of call.Check = None
element_of (call.Load z) = Some (short z)
element_of call.Tick = None
element_of call.Abandon = None

-- the element that an event loads
abbrev pub loaded : Event → Option Elem
loaded e = cond (accepted e.answer) (element_of e.call) None

-- over a system with its limits, and engines with this meaning
module _ (k : Setting) (m : Meaning Point) where
  -- the run of z after the history h: text has a line for each digit of the expansion of z over the digits held, then their number and the total, which is z acting on the start point
  pub record Runs (h : History) (z : Elem) (ds : List Elem) (text : List ℕ) : Type 0 where
    pub expansion : Expands k.ring (width h) (Holding h) z ds
    pub total : ℕ
    pub acted : (act m z m.start).u ≡ pos total
    pub says : text ≡ tick_lines ds ++ run_line (length ds) total

  -- what comes behind the answer e after h: the run, where e loads an element; g is the history then
  abbrev pub Follows : History → Event → History → List ℕ → Type 0
  Follows h e g text = MatchOption (loaded e) ((g ≡ e ∷ h) × (text ≡ [])) (λ z. (ds : List Elem) × Runs h z ds text × (g ≡ ticked ds (e ∷ h)))

  -- line i of the sheet asks for the call c after h: text is what is printed, and g the history then
  pub record Answers (i : ℕ) (c : Call) (h g : History) (text : List ℕ) : Type 0 where
    pub reply : Event
    pub asked : reply.call ≡ c
    pub answered : Answered k (ring_of m) h reply
    pub rest : List ℕ
    pub follows : Follows h reply g rest
    pub says : text ≡ answer_line i reply.call reply.answer ++ rest

  -- the field f is line i of the sheet: it asks for a call, or it is of no shape that asks for one
  abbrev pub AnsweredLine : ℕ → Field → History → History → List ℕ → Type 0
  AnsweredLine i f h g text = ((c : Call) × Asks f c × Answers i c h g text) ⊎ (((c : Call) → ¬ (Asks f c)) × (g ≡ h) × (text ≡ refusal_line refusal.Line i))

  -- the lines from line i on, and what no byte 10 ends behind them, after h
  abbrev pub Lists : ℕ → List Field → List ℕ → History → List ℕ → Type 0
  Lists i [] [] h text = text ≡ []
  Lists i [] (b ∷ bs) h text = text ≡ refusal_line refusal.Line i
  Lists i (f ∷ fs) left h text = (g : History) × ((a : List ℕ) × ((b : List ℕ) × AnsweredLine i f h g a × Lists (i + 1) fs left g b × (text ≡ a ++ b)))

  -- the lines of f, from line i on, after h
  abbrev pub Goes_on : ℕ → Field → History → List ℕ → Type 0
  Goes_on i f h text = (fs : List Field) × ((left : Field) × Lines f fs left × Free 10 (bytes left) × Lists i fs (bytes left) h text)

-- the first line chooses the system of k and a residue engine: it is refused for the uppermost row that fits, which ends the listing; or the lines behind it follow
abbrev pub Starts : Setting → ℕ → ℕ → ℕ → Field → List ℕ → Type 0
Starts k m r g rest text =
    ((why : Refusal) × Uppermost (engine_rows k m r g) why × (text ≡ refusal_line why 1))
    ⊎ (Unfit (engine_rows k m r g) × ((b : List ℕ) × Goes_on k (engine_of k m r g) 2 rest [] b × (text ≡ system_line k.ring.p ++ b)))

-- the first line chooses nothing, which ends the listing; or it chooses
abbrev pub First : Field → Field → List ℕ → Type 0
First f rest text =
    (((s : System) (m r g : ℕ) → ¬ (Chosen f s m r g)) × (text ≡ refusal_line refusal.Line 1))
    ⊎ ((s : System) × ((m : ℕ) × ((r : ℕ) × ((g : ℕ) × Chosen f s m r g × Starts (setting_of s) m r g rest text))))

-- the sheet f has no finished line, or a first one
abbrev pub Opens : Field → List ℕ → Type 0
Opens f text =
    (Free 10 (bytes f) × (text ≡ refusal_line refusal.Line 1))
    ⊎ ((line : Field) × ((rest : Field) × Split 10 f line rest × First line rest text))

-- text is the listing of the sheet
abbrev pub Listing : List ℕ → List ℕ → Type 0
Listing sheet text =
    ((longest < length sheet) × (text ≡ refusal_line refusal.Sheet 0))
    ⊎ ((length sheet ≤ longest) × ((f : Field) × (bytes f ≡ sheet) × (f.place ≡ 0) × Opens f text))
