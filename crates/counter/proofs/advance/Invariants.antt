use Rattle.std.proofs.Common.{◌≡◌, take}
use Rattle.counter.specs.Crc.{register_after}
use Rattle.counter.proofs.advance.Given as goal

abbrev pub invariant-loop-byte : goal.invariant-loop-byte
invariant-loop-byte l = l.register ≡ register_after l.initial.register (take l.byte-index l.bytes)
