-- What the writer of rows answers, and what it leaves in the buffer. Assumes nothing.
use Rattle.std.specs.Prelude.{ℕ, ◌*◌, cond, List, length, Ok, Err, Result, nat_le}
use Rattle.report.specs.Refusals.{Refusal, short}
use Rattle.keyed.specs.Table.{written}
use Rattle.train.specs.Rows.{Row}
use Rattle.train.specs.Bytes.{rows_bytes}
use Rattle.directory.specs.declared.bytes.Short.{Short}

abbrev pub write_told : Result ℕ Short → Result ℕ Refusal
write_told (Ok n) = Ok n
write_told (Err f) = Err short

-- the number of rows, of which each takes 20 bytes
abbrev pub write_answer : List Row → ℕ → Result ℕ Refusal
write_answer rs room = cond (nat_le (20 * length rs) room) (Ok (length rs)) (Err short)

abbrev pub write_leaves : List Row → List ℕ → List ℕ
write_leaves rs out = cond (nat_le (20 * length rs) (length out)) (written (rows_bytes rs) out) out
