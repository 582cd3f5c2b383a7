use Rattle.std.proofs.Common.{◌≡◌, take}
use Rattle.counter.specs.Crc.{all_ones, register_after}
use Rattle.train.specs.Bytes.{rows_bytes}
use Rattle.directory.specs.Meaning.{rows_mean}
use Rattle.directory.proofs.bytes.count.Given as goal

abbrev pub invariant-loop-row : goal.invariant-loop-row
invariant-loop-row l = l.counter.register ≡ register_after all_ones (rows_bytes (rows_mean (take l.row-index l.rows)))
