-- Worked cases, as a list. Assumes nothing.
use Rattle.std.specs.Prelude.{◌≡◌, ℕ, ◌+◌, false, List, [], ◌∷◌, ◌++◌, map, replicate, Some, None, Err, Option}
use Rattle.std.specs.List.{AllByRecursion}
use Rattle.report.specs.Reports.{Report}
use Rattle.report.specs.Layout.{words}
use Rattle.train.specs.Line.{forward, Line}
use Rattle.train.specs.Truth.{true_reports}
use Rattle.train.specs.Bytes.{row_word}
use Rattle.plan.specs.Meaning.{Meaning}
use Rattle.plan.specs.TrainPlan.{train_serves, train_means}
use Rattle.fitting.specs.Neighbours.{IsLoose}
use Rattle.fitting.specs.Answer.{loosely, answer}
use Rattle.runs.specs.Calls.{State, fresh, Call, take, inaugurate, status, Answer, counter, node, refused, looked_at, reply, after}

pub data Case : Type 0 where
  -- a node that starts under this MAC and gets these calls answers the last so
  answers : (mac : ℕ) (calls : List Call) (last : Call) (a : Answer) → Case
  -- it accepts an inauguration
  accepts : (mac : ℕ) (calls : List Call) → Case
  -- its directory has rows with these UUIDs and words
  shows : (mac : ℕ) (calls : List Call) (rows : List (ℕ × ℕ)) → Case
  -- the train plan of this backbone gives the place this address, or none
  gives : (backbone : ℕ) (place : ℕ × ℕ) (address : Option ℕ) → Case

-- the node after these calls
abbrev pub after_all : State → List Call → State
after_all s [] = s
after_all s (c ∷ cs) = after_all (after s c) cs

abbrev pub started : ℕ → List Call → State
started mac calls = after_all (fresh mac 63) calls

abbrev pub train_plan : Meaning
train_plan = train_means 0

-- an answer, whichever loose report is named
abbrev pub Answers : State → Call → Answer → Type 0
Answers s c a = (loose : ℕ) → (answer s.mac (looked_at s) ≡ Err loosely → IsLoose (looked_at s) loose) → reply train_plan s loose 0 c ≡ a

abbrev pub Holds : Case → Type 0
Holds (answers mac calls last a) = Answers (started mac calls) last a
Holds (accepts mac calls) = (value : ℕ) × Answers (started mac calls) inaugurate (counter value)
Holds (shows mac calls rs) = map (λ r. (r.uuid, row_word r)) (started mac calls).rows ≡ rs
Holds (gives b p a) = train_serves b p ≡ a

abbrev pub a : List ℕ
a =
    0x10000012 ∷ 0x20000000 ∷ 0x20000011 ∷ 0x20000000 ∷ 0x20000021 ∷ 0x20000000 ∷ 0x20000000
    ∷ 0x30000000 ∷ 0x30000000 ∷ 0x30000000 ∷ 0x30000000 ∷ 0x3000000A ∷ 0x40000001 ∷ 0x40000003 ∷ 0 ∷ []

abbrev pub b : List ℕ
b =
    0x10000011 ∷ 0x20000000 ∷ 0x20000021 ∷ 0x20000000 ∷ 0x20000011 ∷ 0x20000000 ∷ 0x20000000
    ∷ 0x30000000 ∷ 0x30000000 ∷ 0x30000000 ∷ 0x30000000 ∷ 0x3000000B ∷ 0x40000001 ∷ 0 ∷ []

-- the report of a consist's only node, between these neighbours
abbrev pub single : ℕ → ℕ → ℕ → Report
single m left right = record { mac = m; side1 = left; side2 = right; uuid = m; position = 1; masks = 1 ∷ [] }

-- consists of so many nodes, of which the first is awake; UUIDs and MACs are numbered from k on
abbrev pub consists : ℕ → List ℕ → Line
consists k [] = []
consists k (n ∷ ns) =
    record {
      consist = record { uuid = k; nodes = record { mask = 1; mac = Some k } ∷ replicate n (record { mask = 1; mac = None }) };
      way = forward;
    }
    ∷ consists (k + 1) ns

-- the true reports of a line are taken
abbrev pub taken : List Report → List Call
taken rs = map (λ r. take (words r)) rs

-- each line: fifteen consists of 4 nodes, and one more
abbrev pub sixteen : ℕ → List Call
sixteen asleep = taken (true_reports (consists 1 (replicate 15 3 ++ asleep ∷ [])))

abbrev pub cases : List Case
cases =
    -- the two-unit train, at the node of A: its rows, and node 1
    shows 0x11 (take a ∷ take b ∷ inaugurate ∷ []) ((0xA, 0x01010102) ∷ (0xA, 0x02020102) ∷ (0xA, 0x01010202) ∷ (0xB, 0x01030301) ∷ [])
    ∷ answers 0x11 (take a ∷ take b ∷ inaugurate ∷ []) (status 1) (node 0xA 2 false)
    -- A without B
    ∷ answers 0x11 (take a ∷ []) inaugurate (refused (7, 0x11 ∷ []))
    -- one report alone, no neighbours
    ∷ accepts 1 (taken (single 1 0 0 ∷ []))
    -- sixteen consists of 4 nodes; fifteen, and one of 3
    ∷ answers 1 (sixteen 3) inaugurate (refused (10, []))
    ∷ accepts 1 (sixteen 2)
    -- 10.130.65.44, 10.143.255.254, and the last host of a subnet
    ∷ gives 0 (9, 300) (Some 0x0A82412C)
    ∷ gives 0 (63, 16382) (Some 0x0A8FFFFE)
    ∷ gives 0 (63, 16383) None
    -- three nodes in a ring
    ∷ answers 1 (taken (single 1 3 2 ∷ single 2 1 3 ∷ single 3 2 1 ∷ [])) inaugurate (refused (8, []))
    ∷ []

abbrev pub WorkedCases : Type 0
WorkedCases = AllByRecursion Holds cases
