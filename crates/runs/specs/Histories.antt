-- What a history of calls has brought about, from its calls and answers alone. The latest event comes first. Assumes nothing.
use Rattle.std.specs.Prelude.{◌≡◌, ℕ, ◌+◌, ◌-◌, ◌<◌, Bool, true, false, cond, ◌⊎◌, List, [], ◌∷◌, ◌++◌, Ok}
use Rattle.std.specs.List.{AllByRecursion}
use Rattle.keyed.specs.Orders.{numbers}
use Rattle.keyed.specs.Rising.{Rising}
use Rattle.report.specs.Reports.{Report}
use Rattle.report.specs.Reading as reading
use Rattle.train.specs.Line.{Line}
use Rattle.train.specs.Truth.{In}
use Rattle.train.specs.Rules.{Within}
use Rattle.train.specs.Rows.{Row, rows as line_rows}
use Rattle.fitting.specs.Theorems.{Fitting, AwakeIn}
use Rattle.runs.specs.Calls.{take, silence, inaugurate, Answer, held, counter, granted, returned, rows, node, at_address, device, refused, own_mac, Event}

abbrev pub History : Type 0
History = List Event

-- g is what had happened at some time in h
abbrev pub Part : History → History → Type 0
Part g h = (since : History) × (h ≡ since ++ g)

-- What is held: for each MAC the last report taken and not silenced since.
-- the event took report r
pub record Takes (r : Report) (e : Event) : Type 0 where
  pub words : List ℕ
  pub count : ℕ
  pub call : e.call ≡ take words
  pub read : reading.read words ≡ Ok r
  pub answer : e.answer ≡ held count

-- the event silenced the node of MAC m
pub record Silences (m : ℕ) (e : Event) : Type 0 where
  pub count : ℕ
  pub call : e.call ≡ silence m
  pub answer : e.answer ≡ held count

-- the event took a report under the MAC m, or silenced it
abbrev pub Replaces : ℕ → Event → Type 0
Replaces m e = ((q : Report) × (q.mac ≡ m) × Takes q e) ⊎ Silences m e

pub record Held (h : History) (r : Report) : Type 0 where
  pub since : History
  pub taking : Event
  pub earlier : History
  pub parts : h ≡ since ++ taking ∷ earlier
  pub takes : Takes r taking
  pub kept : AllByRecursion (λ e. Replaces r.mac e → ⊥) since

-- the reports held, in rising order of their MACs
pub record ReportsHeld (h : History) (hs : List Report) : Type 0 where
  pub rising : Rising numbers own_mac hs
  pub each : (r : Report) → In r hs → Held h r
  pub all : (r : Report) → Held h r → In r hs

-- The holds out: those granted less those returned with yes.
abbrev pub is_grant : Answer → Bool
is_grant (held n) = false
is_grant (counter c) = false
is_grant (granted m) = true
is_grant (returned b) = false
is_grant (rows n) = false
is_grant (node u k b) = false
is_grant (at_address a) = false
is_grant (device d) = false
is_grant (refused f) = false

abbrev pub is_return : Answer → Bool
is_return (held n) = false
is_return (counter c) = false
is_return (granted m) = false
is_return (returned b) = b
is_return (rows n) = false
is_return (node u k b) = false
is_return (at_address a) = false
is_return (device d) = false
is_return (refused f) = false

-- how many answers pass
abbrev pub count : (Answer → Bool) → History → ℕ
count p [] = 0
count p (e ∷ h) = cond (p e.answer) 1 0 + count p h

abbrev pub out : History → ℕ
out h = count is_grant h - count is_return h

-- The directory in force: what the lines give that fitted at the last accepted inauguration.
pub record Accepted (e : Event) : Type 0 where
  pub value : ℕ
  pub call : e.call ≡ inaugurate
  pub answer : e.answer ≡ counter value

-- none was accepted
abbrev pub NoneAccepted : History → Type 0
NoneAccepted h = AllByRecursion (λ e. Accepted e → ⊥) h

-- the last that was accepted, and what had happened before it
pub record LastAccepted (h : History) (e : Event) (before : History) : Type 0 where
  pub since : History
  pub parts : h ≡ since ++ e ∷ before
  pub accepted : Accepted e
  pub last : NoneAccepted since

-- a line within the limits, with the node of this MAC awake, fits the reports held
pub record LineFits (mac : ℕ) (h : History) (l : Line) : Type 0 where
  pub hs : List Report
  pub are_held : ReportsHeld h hs
  pub fitting : Fitting hs l
  pub within : Within l
  pub awake : AwakeIn mac l

-- a last accepted line
pub record LastLine (mac : ℕ) (h : History) (l : Line) : Type 0 where
  pub event : Event
  pub before : History
  pub last : LastAccepted h event before
  pub line : LineFits mac before l

-- the rows of the directory in force, none where none is
abbrev pub InForce : ℕ → History → List Row → Type 0
InForce mac h rs = (NoneAccepted h × (rs ≡ [])) ⊎ ((l : Line) × LastLine mac h l × (rs ≡ line_rows l))

-- a hold is out, and what the line gives is not in force
pub record Bars (mac : ℕ) (h : History) (l : Line) : Type 0 where
  pub out : 0 < out h
  pub other : InForce mac h (line_rows l) → ⊥
