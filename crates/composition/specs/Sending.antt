-- The true reports of a line in a buffer. Assumes nothing.
use Rattle.std.specs.Prelude.{◌≡◌, ℕ, ◌+◌, ◌/◌, ◌%◌, ◌^◌, cond, List, ◌++◌, map, length, take, drop, Ok, Err, Result, nat_le}
use Rattle.report.specs.declared.Report as code
use Rattle.report.specs.Reading.{padded}
use Rattle.report.specs.Reports.{Report}
use Rattle.train.specs.Line.{Coupled, Line}
use Rattle.train.specs.Truth.{awake_of, true_reports}
use Rattle.directory.specs.declared.bytes.Short.{Short}
use Rattle.composition.specs.Standing.{last_mac, reports_between}

-- the report of the code with these values: the mask places past the consist's nodes are 0
abbrev pub coded : Report → code.Report
coded r = record {
  mac = record { 0 = r.mac };
  side1 = record { 0 = r.side1 };
  side2 = record { 0 = r.side2 };
  uuid = record { high = r.uuid / 2 ^ 64; low = r.uuid % 2 ^ 64 };
  position = r.position;
  nodes = length r.masks;
  masks = padded r.masks;
}

-- the true reports of a line, as they are written
abbrev pub sent : Line → List code.Report
sent l = map coded (true_reports l)

-- of a buffer with so many places
abbrev pub sent_answer : Line → ℕ → Result ℕ Short
sent_answer l room = cond (nat_le (length (true_reports l)) room) (Ok (length (true_reports l))) (Err (record {}))

-- the buffer behind a call: the reports at its front where they fit
abbrev pub sent_leaves : Line → List code.Report → List code.Report
sent_leaves l out = cond (nat_le (length (true_reports l)) (length out)) (sent l ++ drop (length (sent l)) out) out

-- The buffer behind the reports of one consist, between l and r, from place `at` on: `end` is the place behind them, `last` the last MAC.
pub record Put (s : Coupled) (l r at : ℕ) (before : List code.Report) (end last : ℕ) (after : List code.Report) : Type 0 where
  pub front : take end after ≡ take at before ++ map coded (reports_between l (awake_of s) r)
  pub back : drop end after ≡ drop end before
  pub ends : end ≡ at + length (awake_of s)
  pub lasts : last ≡ last_mac l (awake_of s)
