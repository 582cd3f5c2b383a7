-- antt compares the code's 256 entries with the computed ones.
use Rattle.std.proofs.Common.{rules}
use Rattle.counter.proofs.Division.{shiftOut, shiftsOut}
use Rattle.counter.proofs.Entries.{tableFrom, table_at}
use Rattle.counter.proofs.table.entry.Goals as goal

pub returns : goal.returns
unfolding shiftOut shiftsOut tableFrom
returns c = table_at c.args.byte (search rules)
