-- What each answer, and the output buffer after it, must be for the events before it. Assumes nothing.
use Rattle.std.specs.Prelude.{◌≡◌, ℕ, ◌*◌, ◌<◌, ◌≤◌, min, true, false, List, [], ◌∷◌, length, Some, Ok, Err, ◌≢◌}
use Rattle.keyed.specs.Table.{written}
use Rattle.report.specs.Reports.{Report}
use Rattle.report.specs.Refusals.{Refusal, short}
use Rattle.report.specs.Reading.{read}
use Rattle.report.specs.Crossed.{Crossed, crossed}
use Rattle.train.specs.Line.{Line}
use Rattle.train.specs.Truth.{Awake, In}
use Rattle.train.specs.Rules.{Within}
use Rattle.train.specs.Rows.{Row, counted, placed_nodes}
use Rattle.train.specs.Bytes.{rows_bytes, counter as line_counter}
use Rattle.fitting.specs.Neighbours.{Firm}
use Rattle.fitting.specs.Walk.{IsChain}
use Rattle.fitting.specs.Answer.{mute, loosely, split, mixed, long}
use Rattle.fitting.specs.Theorems.{Fitting, AwakeIn}
use Rattle.addressing.specs.Devices.{Device}
use Rattle.addressing.specs.Addressing.{no_directory, absent}
use Rattle.addressing.specs.OwnAddresses.{HasPlace}
use Rattle.plan.specs.Meaning.{Meaning}
use Rattle.runs.specs.Calls.{Call, take, silence, inaugurate, hold, give_back, directory, status, address, trace, Answer, held, counter, granted, returned, rows, node, at_address, device, refused, full, unknown, barred, busy, Event}
use Rattle.runs.specs.Histories.{History, ReportsHeld, out, NoneAccepted, LastLine, InForce, Bars}

-- a report is held under the MAC m
abbrev pub Has : ℕ → List Report → Type 0
Has m hs = (r : Report) × In r hs × (r.mac ≡ m)

-- `hs` are the reports held before, `then` those held after
pub record RightTake (places : ℕ) (hs then : List Report) (words : List ℕ) (a : Answer) : Type 0 where
  pub garbled : (f : Refusal) → read words ≡ Err f → a ≡ refused f
  pub crossed : (r : Report) → read words ≡ Ok r → Crossed r → a ≡ refused crossed
  -- every place is taken: the memory's, of which a node uses at most 63
  pub full : (r : Report) → read words ≡ Ok r → (Crossed r → ⊥) → (Has r.mac hs → ⊥) → min places 63 ≤ length hs → a ≡ refused full
  pub new : (r : Report) → read words ≡ Ok r → (Crossed r → ⊥) → length hs < min places 63 → a ≡ held (length then)
  pub again : (r : Report) → read words ≡ Ok r → (Crossed r → ⊥) → Has r.mac hs → a ≡ held (length then)

pub record RightSilence (hs then : List Report) (m : ℕ) (a : Answer) : Type 0 where
  pub known : Has m hs → a ≡ held (length then)
  pub unknown : (Has m hs → ⊥) → a ≡ refused unknown

pub record RightInaugurate (mac : ℕ) (h : History) (hs : List Report) (a : Answer) : Type 0 where
  -- the own report is not held
  pub mute : (Has mac hs → ⊥) → a ≡ refused (mute, [])
  -- a report's neighbour is not held or does not name it: one such report is named
  pub loose : Has mac hs → (r : Report) → In r hs → (Firm hs r → ⊥) → (q : Report) × In q hs × (Firm hs q → ⊥) × (a ≡ refused (loosely, q.mac ∷ []))
  -- a ring, or several chains
  pub split : Has mac hs → ((r : Report) → In r hs → Firm hs r) → ((xs : List Awake) → IsChain hs xs → ⊥) → a ≡ refused (split, [])
  -- one chain, but no line fits, limits aside
  pub mixed : Has mac hs → (xs : List Awake) → IsChain hs xs → ((l : Line) → Fitting hs l → ⊥) → a ≡ refused (mixed, [])
  -- a line fits but for a limit
  pub long : Has mac hs → (l : Line) → Fitting hs l → (Within l → ⊥) → a ≡ refused (long, [])
  pub barred : (l : Line) → Fitting hs l → Within l → AwakeIn mac l → Bars mac h l → a ≡ refused barred
  pub accepted : (l : Line) → Fitting hs l → Within l → AwakeIn mac l → (Bars mac h l → ⊥) → a ≡ counter (line_counter l)

pub record RightHold (mac : ℕ) (h : History) (a : Answer) : Type 0 where
  pub free : out h < 16 → a ≡ granted mac
  pub busy : 16 ≤ out h → a ≡ refused busy

pub record RightGiveBack (mac : ℕ) (h : History) (m : ℕ) (a : Answer) : Type 0 where
  pub own : m ≡ mac → 0 < out h → a ≡ returned true
  pub other : (m ≢ mac) → a ≡ returned false
  pub none : out h ≡ 0 → a ≡ returned false

pub record RightDirectory (rs : List Row) (a : Answer) (before after : List ℕ) : Type 0 where
  pub none : rs ≡ [] → (a ≡ refused no_directory) × (after ≡ before)
  pub short : 1 ≤ length rs → length before < 20 * length rs → (a ≡ refused short) × (after ≡ before)
  pub whole : 1 ≤ length rs → 20 * length rs ≤ length before → (a ≡ rows (length rs)) × (after ≡ written (rows_bytes rs) before)

-- a report held has this UUID and this position
abbrev pub HasPosition : ℕ → ℕ → List Report → Type 0
HasPosition u k hs = (r : Report) × In r hs × (r.uuid ≡ u) × (r.position ≡ k)

-- the node n of the line is at position k of consist u
abbrev pub IsNodeNumber : Line → ℕ → ℕ → ℕ → Type 0
IsNodeNumber l n u k = In (n, (u, k)) (counted 1 (placed_nodes l))

pub record RightStatus (mac : ℕ) (h : History) (hs : List Report) (n : ℕ) (a : Answer) : Type 0 where
  pub none : NoneAccepted h → a ≡ refused no_directory
  pub awake : (l : Line) → LastLine mac h l → (u k : ℕ) → IsNodeNumber l n u k → HasPosition u k hs → a ≡ node u k true
  pub silent : (l : Line) → LastLine mac h l → (u k : ℕ) → IsNodeNumber l n u k → (HasPosition u k hs → ⊥) → a ≡ node u k false
  pub absent : (l : Line) → LastLine mac h l → ((u k : ℕ) → IsNodeNumber l n u k → ⊥) → a ≡ refused absent

-- device d of the line has a place that the plan serves at address x
pub record HasAddress (plan : Meaning) (l : Line) (d : Device) (x : ℕ) : Type 0 where
  pub place : ℕ × ℕ
  pub has_place : HasPlace l d place
  pub served : plan.serves place ≡ Some x

pub record RightAddress (plan : Meaning) (mac : ℕ) (h : History) (d : Device) (a : Answer) : Type 0 where
  pub none : NoneAccepted h → a ≡ refused no_directory
  pub served : (l : Line) → LastLine mac h l → (x : ℕ) → HasAddress plan l d x → a ≡ at_address x
  pub absent : (l : Line) → LastLine mac h l → ((x : ℕ) → HasAddress plan l d x → ⊥) → a ≡ refused absent

pub record RightTrace (plan : Meaning) (mac : ℕ) (h : History) (x : ℕ) (a : Answer) : Type 0 where
  pub none : NoneAccepted h → a ≡ refused no_directory
  pub found : (l : Line) → LastLine mac h l → (d : Device) → HasAddress plan l d x → a ≡ device d
  pub absent : (l : Line) → LastLine mac h l → ((d : Device) → HasAddress plan l d x → ⊥) → a ≡ refused absent

-- `hs` are the reports held and `rs` the rows in force before, `then` the reports held after
abbrev pub RightAnswer : Meaning → ℕ → ℕ → History → List Report → List Row → List Report → Call → Answer → List ℕ → List ℕ → Type 0
RightAnswer plan mac places h hs rs then (take ws) a b l = RightTake places hs then ws a × (l ≡ b)
RightAnswer plan mac places h hs rs then (silence m) a b l = RightSilence hs then m a × (l ≡ b)
RightAnswer plan mac places h hs rs then inaugurate a b l = RightInaugurate mac h hs a × (l ≡ b)
RightAnswer plan mac places h hs rs then hold a b l = RightHold mac h a × (l ≡ b)
RightAnswer plan mac places h hs rs then (give_back m) a b l = RightGiveBack mac h m a × (l ≡ b)
RightAnswer plan mac places h hs rs then directory a b l = RightDirectory rs a b l
RightAnswer plan mac places h hs rs then (status n) a b l = RightStatus mac h hs n a × (l ≡ b)
RightAnswer plan mac places h hs rs then (address d) a b l = RightAddress plan mac h d a × (l ≡ b)
RightAnswer plan mac places h hs rs then (trace x) a b l = RightTrace plan mac h x a × (l ≡ b)

-- event e is right where h has happened at the node that started under this MAC, with memory for so many reports
pub record Right (plan : Meaning) (mac places : ℕ) (h : History) (e : Event) : Type 0 where
  pub hs : List Report
  pub are_held : ReportsHeld h hs
  pub rs : List Row
  pub in_force : InForce mac h rs
  pub then : List Report
  pub held_then : ReportsHeld (e ∷ h) then
  pub answer : RightAnswer plan mac places h hs rs then e.call e.answer e.before e.after
