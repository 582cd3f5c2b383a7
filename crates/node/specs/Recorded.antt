-- Calls and answers as they are listed and recorded, and what was played of a list. Assumes nothing.
use Rattle.std.specs.Prelude.{◌≡◌, ℕ, min, Bool, true, false, List, [], ◌∷◌, map, length, drop, Ok, Err, Result}
use Rattle.std.proofs.Math.ListN as list
use Rattle.report.specs.declared.Mac.{Mac}
use Rattle.addressing.specs.Devices.{device_means}
use Rattle.plan.specs.Meaning.{Meaning}
use Rattle.runs.specs.Calls.{State, granted, refused, busy}
use Rattle.runs.specs.Calls as model
use Rattle.runs.specs.Promise.{Run, Played, history}
use Rattle.node.specs.declared.fault.Busy.{Busy}
use Rattle.node.specs.declared.call.Call.{Call}
use Rattle.node.specs.declared.call.Call.TheVariants as call
use Rattle.node.specs.declared.call.Answer.{Answer}
use Rattle.node.specs.declared.call.Answer.TheVariants as answer
use Rattle.node.specs.declared.rehearsal.Recorded.{Recorded}
use Rattle.node.specs.declared.rehearsal.Player.{Player}
use Rattle.node.specs.Told.{take_told, silence_told, inauguration_told, return_told, directory_told, status_told, address_answer, trace_answer}

abbrev pub calling : Call → model.Call
calling (call.Take words) = model.take words.now
calling (call.Silence m) = model.silence m.0
calling call.Inaugurate = model.inaugurate
calling call.Hold = model.hold
calling (call.GiveBack m) = model.give_back m.0
calling call.Directory = model.directory
calling (call.Status n) = model.status n
calling (call.Address d) = model.address (device_means d)
calling (call.Trace x) = model.trace x

-- whether a call hands a hold over, and so the token that a hold is
abbrev pub hands_hold : model.Call → Bool
hands_hold (model.take ws) = false
hands_hold (model.silence m) = false
hands_hold model.inaugurate = false
hands_hold model.hold = true
hands_hold (model.give_back m) = true
hands_hold model.directory = false
hands_hold (model.status n) = false
hands_hold (model.address d) = false
hands_hold (model.trace x) = false

abbrev pub granted_told : Result Mac Busy → model.Answer
granted_told (Ok m) = granted m.0
granted_told (Err f) = refused busy

abbrev pub answer_told : Answer → model.Answer
answer_told (answer.Taken r) = take_told r
answer_told (answer.Silenced r) = silence_told r
answer_told (answer.Inaugurated r) = inauguration_told r
answer_told (answer.Granted r) = granted_told r
answer_told (answer.Returned b) = return_told b
answer_told (answer.Directory r) = directory_told r
answer_told (answer.Status r) = status_told r
answer_told (answer.Address r) = address_answer r
answer_told (answer.Traced r) = trace_answer r

abbrev pub output_of : Recorded → List ℕ
output_of r = list.take r.length r.output

-- an answer with the output buffer after it
abbrev pub recorded : Recorded → model.Answer × List ℕ
recorded r = (answer_told r.answer, output_of r)

-- the node that was played, by the first n of its calls and records
abbrev pub played_by : ℕ → ℕ → List Call → List ℕ → List Recorded → ℕ → Played
played_by mac places calls output records n = record {
  mac = mac;
  places = places;
  calls = map calling (list.take n calls);
  output = output;
  recorded = map recorded (list.take n records);
}

-- the output buffer after what is recorded
abbrev pub last_output : List ℕ → List (model.Answer × List ℕ) → List ℕ
last_output out [] = out
last_output out (r ∷ rs) = last_output r.1 rs

-- n calls were played from a start and recorded so; the output buffer is left as after the last, and later records stay
pub record Plays (plan : Meaning) (mac places : ℕ) (calls : List Call) (output left : List ℕ) (old new : List Recorded) (n : ℕ) : Type 0 where
  pub count : n ≡ min (length calls) (length old)
  pub last : left ≡ last_output output (map recorded (list.take n new))
  pub rest : drop n new ≡ drop n old
  pub state : State
  pub run : Run plan mac places (history (played_by mac places calls output new n)) state

-- of an output buffer, as much as the rows of a directory can take
abbrev pub used : List ℕ → List ℕ
used out = list.take 2560 out

-- the node that was played, with what is then in its records
abbrev pub played : Player → List Recorded → ℕ → Played
played p records n = played_by p.mac.0 (length p.memory.now) p.calls.now (used p.output.now) records n

-- what it leaves: its output buffer, of which the part that is not used stays, and its records
pub record PlayedSo (plan : Meaning) (p : Player) (output : List ℕ) (records : List Recorded) (n : ℕ) : Type 0 where
  pub plays : Plays plan p.mac.0 (length p.memory.now) p.calls.now (used p.output.now) (used output) p.records.now records n
  pub unused : drop 2560 output ≡ drop 2560 p.output.now
