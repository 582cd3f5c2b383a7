use Rattle.std.proofs.Common.{◌≡◌, take}
use Rattle.keyed.specs.Table.{written}
use Rattle.train.specs.Bytes.{rows_bytes}
use Rattle.directory.specs.Meaning.{rows_mean}
use Rattle.directory.proofs.bytes.put.Given as goal

abbrev pub invariant-loop-i : goal.invariant-loop-i
invariant-loop-i l = l.out ≡ written (rows_bytes (rows_mean (take l.i l.rows))) l.initial.out
