use Rattle.std.proofs.Common.{◌≡◌, ◌++◌, map, take, All}
use Rattle.scenario.specs.Numbers.{AreHexDigits, byte_of}
use Rattle.scenario.proofs.number.push_bytes.Given as goal

abbrev pub invariant-loop-pair : goal.invariant-loop-pair
invariant-loop-pair l =
    (l.bytes.items ≡ l.fn.bytes.items ++ map byte_of (take l.pair-index l.pairs))
    × All AreHexDigits (take l.pair-index l.pairs)
