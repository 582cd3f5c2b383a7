-- Whole runs of a node, and what is promised of two of them. Assumes nothing.
use Rattle.std.specs.Prelude.{◌≡◌, ℕ, ◌⊎◌, List, [], ◌∷◌, length}
use Rattle.keyed.specs.Table.{written}
use Rattle.plan.specs.Meaning.{Meaning, Lawful}
use Rattle.train.specs.Line.{Line}
use Rattle.train.specs.Rows.{Row, rows as line_rows}
use Rattle.train.specs.Bytes.{rows_bytes, counter as line_counter}
use Rattle.train.specs.Agreement.{Agree}
use Rattle.fitting.specs.Answer.{loosely}
use Rattle.addressing.specs.Devices.{Device}
use Rattle.runs.specs.Calls.{State, fresh, Call, inaugurate, directory, address, trace, Answer, counter, rows, at_address, device, refused, Event, event, Step}
use Rattle.runs.specs.Histories.{History, Part, Accepted, LastAccepted, LineFits, LastLine, InForce, Bars}
use Rattle.runs.specs.Right.{Right, HasAddress}

-- a node in state s comes through the history to state t
abbrev pub Comes : Meaning → State → History → State → Type 0
Comes plan s [] t = t ≡ s
Comes plan s (e ∷ h) t = (r : State) × Comes plan s h r × Step plan r e t

-- it started under this MAC, with memory for so many reports
abbrev pub Run : Meaning → ℕ → ℕ → History → State → Type 0
Run plan mac places h t = Comes plan (fresh mac places) h t

-- a node that is played: its MAC, its memory, its calls, its output buffer, and what is recorded: each answer with the buffer after it
pub record Played : Type 0 where
  pub mac : ℕ
  pub places : ℕ
  pub calls : List Call
  pub output : List ℕ
  pub recorded : List (Answer × List ℕ)

-- the events of calls that are recorded so, behind those of h, from this output buffer on
abbrev pub events : History → List ℕ → List Call → List (Answer × List ℕ) → History
events h out [] rs = h
events h out (c ∷ cs) [] = h
events h out (c ∷ cs) (r ∷ rs) = events (event c r.0 out r.1 ∷ h) r.1 cs rs

abbrev pub history : Played → History
history n = events [] n.output n.calls n.recorded

-- e may come next where h has happened: it is what such a node answers
abbrev pub Next : Meaning → Played → History → Event → Type 0
Next plan n h e = (s : State) × (t : State) × Run plan n.mac n.places h s × Step plan s e t

-- two answers are the same, but for which loose report a refusal 7 names
abbrev pub SameAnswer : Answer → Answer → Type 0
SameAnswer a b = (a ≡ b) ⊎ ((m : ℕ) × (k : ℕ) × (a ≡ refused (loosely, m ∷ [])) × (b ≡ refused (loosely, k ∷ [])))

-- One node, after each of its answers.
pub record NodeRight (plan : Meaning) (n : Played) : Type 0 where
  -- every answer, and the buffer after it, is what the rules give for the calls so far
  pub right : (h : History) (e : Event) → Part (e ∷ h) (history n) → Right plan n.mac n.places h e
  -- and the rules leave no choice: of two events that are right where h has happened, the same call with the same buffer has the same answer
  pub no_choice : (h : History) (e f : Event) → Part h (history n) → Right plan n.mac n.places h e → Right plan n.mac n.places h f
      → f.call ≡ e.call → f.before ≡ e.before → SameAnswer e.answer f.answer × (f.after ≡ e.after)
  -- an inauguration sent next is accepted only if a line with this node awake fits the reports held and no hold bars a change
  pub accepted_only : (h : History) (e : Event) → Part h (history n) → Next plan n h e → Accepted e
      → (l : Line) × LineFits n.mac h l × (Bars n.mac h l → ⊥)
  -- and it is accepted if there is such a line
  pub accepted_then : (h : History) (e : Event) → Part h (history n) → Next plan n h e → e.call ≡ inaugurate
      → (l : Line) → LineFits n.mac h l → (Bars n.mac h l → ⊥) → Accepted e
  -- on acceptance every fitting line gives the directory then in force and the counter answered
  pub one_directory : (h : History) (e : Event) → Part h (history n) → Next plan n h e → Accepted e
      → (l : Line) → LineFits n.mac h l → InForce n.mac (e ∷ h) (line_rows l) × (e.answer ≡ counter (line_counter l))
  -- until the next acceptance a granted directory question writes this directory
  pub written_directory : (h : History) (e : Event) (k : ℕ) → Part h (history n) → Next plan n h e → e.call ≡ directory → e.answer ≡ rows k
      → (l : Line) → LastLine n.mac h l → (k ≡ length (line_rows l)) × (e.after ≡ written (rows_bytes (line_rows l)) e.before)

-- One of two nodes whose last accepted line gives device d the address x.
pub record OwnAddressAt (plan : Meaning) (n : Played) (h : History) (d : Device) (x : ℕ) : Type 0 where
  -- the device gets this address
  pub gets : (e : Event) → Next plan n h e → e.call ≡ address d → e.answer ≡ at_address x
  -- the address is traced to this device
  pub back : (e : Event) → Next plan n h e → e.call ≡ trace x → e.answer ≡ device d
  -- no other device gets it
  pub alone : (e : Event) (other : Device) → Next plan n h e → e.call ≡ address other → e.answer ≡ at_address x → other ≡ d

-- Two nodes, after each answer of either: their last accepted lines have the same consists in the same order and way round, read from either end.
pub record SameTrain (n m : Played) (h g : History) (l k : Line) : Type 0 where
  pub first : Part h (history n)
  pub second : Part g (history m)
  pub first_line : LastLine n.mac h l
  pub second_line : LastLine m.mac g k
  pub agree : Agree l k

pub record NodesAgree (plan : Meaning) (n m : Played) : Type 0 where
  -- then their directories are equal
  pub directories : (h g : History) (l k : Line) → SameTrain n m h g l k → (rs qs : List Row)
      → InForce n.mac h rs → InForce m.mac g qs → qs ≡ rs
  -- and so are the counters that they answered
  pub counters : (h g : History) (l k : Line) → SameTrain n m h g l k → (e f : Event) (before earlier : History)
      → LastAccepted h e before → LastAccepted g f earlier → f.answer ≡ e.answer
  -- and each device whose place is served has an address of its own, at either node
  pub addresses : (h g : History) (l k : Line) → SameTrain n m h g l k → (d : Device) (x : ℕ) → HasAddress plan l d x
      → OwnAddressAt plan n h d x × OwnAddressAt plan m g d x

-- The promise: two fresh nodes are played under one plan, and this is what was recorded.
pub record RightAndAgreeing (plan : Meaning) (first second : Played) : Type 0 where
  pub first_run : (t : State) × Run plan first.mac first.places (history first) t
  pub second_run : (t : State) × Run plan second.mac second.places (history second) t
  pub first_right : NodeRight plan first
  pub second_right : NodeRight plan second
  pub nodes_agree : NodesAgree plan first second

-- whatever is played
abbrev pub EveryRun : Type 0
EveryRun =
    (plan : Meaning) (first second : Played) (s t : State) → Lawful plan.serves plan.stands
    → Run plan first.mac first.places (history first) s → Run plan second.mac second.places (history second) t → RightAndAgreeing plan first second
