-- What the writer answers, and what it leaves in the buffer. Assumes nothing.
use Rattle.std.specs.Prelude.{ℕ, cond, ◌&&◌, List, length, Ok, Err, Result, nat_le}
use Rattle.keyed.specs.Table.{written}
use Rattle.report.specs.declared.Report as code
use Rattle.report.specs.Reports.{means, in_range}
use Rattle.report.specs.Refusals.{Refusal, short, field}
use Rattle.report.specs.Layout.{words}

-- of a buffer with room for so many words
abbrev pub write_answer : code.Report → ℕ → Result ℕ Refusal
write_answer r room =
    let n = length (words (means r)) in
    cond (in_range r) (cond (nat_le n room) (Ok n) (Err short)) (Err field)

abbrev pub write_leaves : code.Report → List ℕ → List ℕ
write_leaves r out =
    let ws = words (means r) in
    cond (in_range r && nat_le (length ws) (length out)) (written ws out) out
