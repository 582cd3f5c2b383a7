-- What each call of a node answers, and what it leaves in the node and in the output buffer. Assumes nothing.
use Rattle.std.specs.Prelude.{◌≡◌, ℕ, ◌+◌, ◌-◌, min, Bool, true, false, cond, not, ◌&&◌, List, [], ◌∷◌, length, Some, None, Ok, Err, Result, ◌==◌, nat_lt}
use Rattle.std.proofs.Math.ListN as list
use Rattle.std.specs.List.{list_any}
use Rattle.keyed.specs.Orders.{numbers}
use Rattle.keyed.specs.Find.{found}
use Rattle.keyed.specs.Store.{stored, store_keeps}
use Rattle.keyed.specs.Store as store
use Rattle.keyed.specs.Remove.{removed}
use Rattle.counter.specs.Crc.{crc}
use Rattle.report.specs.Reports.{Report}
use Rattle.report.specs.Refusals.{Refusal}
use Rattle.report.specs.Reading.{read}
use Rattle.report.specs.Crossed.{crossed, is_crossed}
use Rattle.train.specs.Rows.{Row}
use Rattle.train.specs.Bytes.{rows_bytes}
use Rattle.directory.specs.Asked.{place_of}
use Rattle.directory.specs.Writing.{write_answer, write_leaves}
use Rattle.fitting.specs.Assemble.{same_way}
use Rattle.fitting.specs.Neighbours.{IsLoose}
use Rattle.fitting.specs.Answer.{loosely, answer}
use Rattle.plan.specs.Meaning.{Meaning}
use Rattle.addressing.specs.Devices.{Device}
use Rattle.addressing.specs.Addressing.{no_directory, in_force, addressed, traced}

-- what a node keeps
pub record State : Type 0 where
  pub mac : ℕ
  -- how many reports it has room for, and those that it holds
  pub room : ℕ
  pub held : List Report
  -- how many holds are out
  pub holds : ℕ
  -- the rows of the directory in force; where there are none, none is in force
  pub rows : List Row

-- a node that starts with memory for so many reports
abbrev pub fresh : ℕ → ℕ → State
fresh mac places = record { mac = mac; room = min places 63; held = []; holds = 0; rows = [] }

pub data Call : Type 0 where
  take : (words : List ℕ) → Call
  silence : (mac : ℕ) → Call
  inaugurate : Call
  hold : Call
  give_back : (mac : ℕ) → Call
  directory : Call
  status : (number : ℕ) → Call
  address : (device : Device) → Call
  trace : (address : ℕ) → Call

pub data Answer : Type 0 where
  -- how many reports are held then
  held : (count : ℕ) → Answer
  counter : (value : ℕ) → Answer
  -- a hold, and the MAC that it bears
  granted : (mac : ℕ) → Answer
  -- whether a hold was taken back
  returned : (yes : Bool) → Answer
  -- how many rows are written
  rows : (count : ℕ) → Answer
  node : (uuid position : ℕ) (awake : Bool) → Answer
  at_address : (value : ℕ) → Answer
  device : Device → Answer
  refused : Refusal → Answer

abbrev pub full : Refusal
full = (4, [])

abbrev pub unknown : Refusal
unknown = (5, [])

abbrev pub barred : Refusal
barred = (11, [])

abbrev pub busy : Refusal
busy = (14, [])

-- an answer, or its refusal
abbrev pub told : {A : Type 0} → (A → Answer) → Result A Refusal → Answer
told f (Ok x) = f x
told f (Err r) = refused r

abbrev pub onward : {A B : Type 0} → Result A Refusal → (A → Result B Refusal) → Result B Refusal
onward (Ok x) f = f x
onward (Err r) f = Err r

-- Taking a report.
abbrev pub own_mac : Report → ℕ
own_mac r = r.mac

-- the report that words give, unless its neighbours are crossed
abbrev pub let_through : List ℕ → Result Report Refusal
let_through ws = onward (read ws) (λ r. cond (is_crossed r) (Err crossed) (Ok r))

abbrev pub stored_count : ℕ → List Report → Report → Result ℕ Refusal
stored_count room hs r = cond (store.refused numbers own_mac r room hs) (Err full) (Ok (length (stored numbers own_mac r hs)))

abbrev pub take_answer : State → List ℕ → Result ℕ Refusal
take_answer s ws = onward (let_through ws) (stored_count s.room s.held)

abbrev pub held_with : ℕ → List Report → Result Report Refusal → List Report
held_with room hs (Ok r) = store_keeps numbers own_mac r room hs
held_with room hs (Err f) = hs

-- The silence of a node.
abbrev pub silence_answer : State → ℕ → Result ℕ Refusal
silence_answer s m =
    elim (found numbers own_mac m s.held) [ Some r ↦ Ok (length (removed numbers own_mac m s.held)) | None ↦ Err unknown ]

-- Inauguration, of at most 63 reports.
abbrev pub same_row : Row → Row → Bool
same_row r q = r.uuid == q.uuid && r.cn == q.cn && r.subnet == q.subnet && r.node == q.node && same_way r.way q.way

abbrev pub same_rows : List Row → List Row → Bool
same_rows [] [] = true
same_rows [] (q ∷ qs) = false
same_rows (r ∷ rs) [] = false
same_rows (r ∷ rs) (q ∷ qs) = same_row r q && same_rows rs qs

-- a hold is out, and these rows are not in force
abbrev pub bars : State → List Row → Bool
bars s rs = nat_lt 0 s.holds && not (same_rows rs s.rows)

abbrev pub looked_at : State → List Report
looked_at s = list.take 63 s.held

-- refusal 7 names the MAC of a loose report
abbrev pub named : ℕ → ℕ → Refusal
named loose n = (n, cond (n == loosely) (loose ∷ []) [])

abbrev pub decided : State → ℕ → Result (List Row) ℕ → Result (List Row) Refusal
decided s loose (Ok rs) = cond (bars s rs) (Err barred) (Ok rs)
decided s loose (Err n) = Err (named loose n)

-- the rows of the line that fits, unless it is refused
abbrev pub inaugurated : State → ℕ → Result (List Row) Refusal
inaugurated s loose = decided s loose (answer s.mac (looked_at s))

abbrev pub rows_after : List Row → Result (List Row) Refusal → List Row
rows_after old (Ok rs) = rs
rows_after old (Err r) = old

-- Holds.
abbrev pub hold_answer : State → Result ℕ Refusal
hold_answer s = cond (nat_lt s.holds 16) (Ok s.mac) (Err busy)

abbrev pub is_returned : State → ℕ → Bool
is_returned s m = m == s.mac && nat_lt 0 s.holds

-- Questions.
abbrev pub directory_answer : List Row → ℕ → Result ℕ Refusal
directory_answer rs room = cond (length rs == 0) (Err no_directory) (write_answer rs room)

-- a report held is of the node at this position of this consist
abbrev pub is_awake : ℕ → ℕ → List Report → Bool
is_awake u k hs = list_any (λ r. r.uuid == u && r.position == k) hs

abbrev pub status_answer : State → ℕ → Result (ℕ × ℕ) Refusal
status_answer s n = in_force s.rows (place_of n s.rows)

abbrev pub status_reply : State → ℕ → Answer
status_reply s n = told (λ p. node p.0 p.1 (is_awake p.0 p.1 s.held)) (status_answer s n)

-- What is answered, with an output buffer of so many bytes; `loose` is what a refusal 7 names.
abbrev pub reply : Meaning → State → ℕ → ℕ → Call → Answer
reply plan s loose size (take ws) = told held (take_answer s ws)
reply plan s loose size (silence m) = told held (silence_answer s m)
reply plan s loose size inaugurate = told (λ rs. counter (crc (rows_bytes rs))) (inaugurated s loose)
reply plan s loose size hold = told granted (hold_answer s)
reply plan s loose size (give_back m) = returned (is_returned s m)
reply plan s loose size directory = told rows (directory_answer s.rows size)
reply plan s loose size (status n) = status_reply s n
reply plan s loose size (address d) = told at_address (addressed plan.serves s.rows d)
reply plan s loose size (trace a) = told device (traced plan.stands s.rows a)

-- The node after the call.
abbrev pub holding : State → List Report → State
holding s hs = record { mac = s.mac; room = s.room; held = hs; holds = s.holds; rows = s.rows }

abbrev pub with_holds : State → ℕ → State
with_holds s n = record { mac = s.mac; room = s.room; held = s.held; holds = n; rows = s.rows }

abbrev pub with_rows : State → List Row → State
with_rows s rs = record { mac = s.mac; room = s.room; held = s.held; holds = s.holds; rows = rs }

abbrev pub after : State → Call → State
after s (take ws) = holding s (held_with s.room s.held (let_through ws))
after s (silence m) = holding s (removed numbers own_mac m s.held)
after s inaugurate = with_rows s (rows_after s.rows (inaugurated s 0))
after s hold = with_holds s (cond (nat_lt s.holds 16) (s.holds + 1) s.holds)
after s (give_back m) = with_holds s (cond (is_returned s m) (s.holds - 1) s.holds)
after s directory = s
after s (status n) = s
after s (address d) = s
after s (trace a) = s

-- The output buffer after the call: a directory is written at its front, no other call writes.
abbrev pub writes : State → Call → List ℕ → List ℕ
writes s (take ws) out = out
writes s (silence m) out = out
writes s inaugurate out = out
writes s hold out = out
writes s (give_back m) out = out
writes s directory out = write_leaves s.rows out
writes s (status n) out = out
writes s (address d) out = out
writes s (trace a) out = out

-- a call that was made: its answer, and the output buffer before and after it
pub record Event : Type 0 where
  pub call : Call
  pub answer : Answer
  pub before : List ℕ
  pub after : List ℕ

abbrev pub event : Call → Answer → List ℕ → List ℕ → Event
event c a b l = record { call = c; answer = a; before = b; after = l }

-- the event is what a node in state s makes of the call, and leaves it in state t
pub record Step (plan : Meaning) (s : State) (e : Event) (t : State) : Type 0 where
  -- what a refusal 7 names, if it is the answer, is the MAC of a loose report
  pub loose : ℕ
  pub is_loose : answer s.mac (looked_at s) ≡ Err loosely → IsLoose (looked_at s) loose
  pub answered : e.answer ≡ reply plan s loose (length e.before) e.call
  pub wrote : e.after ≡ writes s e.call e.before
  pub left : t ≡ after s e.call

-- a call without an output buffer
abbrev pub Does : Meaning → State → Call → Answer → State → Type 0
Does plan s c a t = Step plan s (event c a [] []) t
