use Rattle.std.proofs.Common.{◌≡◌, ◌+◌, ◌++◌, map, length, take, drop}
use Rattle.train.specs.Truth.{awake, reports}
use Rattle.composition.specs.Meaning.{described}
use Rattle.composition.specs.Sending.{coded, sent}
use Rattle.composition.proofs.reports.put_reports.Given as goal

abbrev pub invariant-loop-i : goal.invariant-loop-i
invariant-loop-i l =
    let rest = awake (described (drop l.i l.consists)) in
    (take l.at l.out ++ map coded (reports l.left.0 rest) ≡ sent (described l.consists))
    × (l.at + length rest ≡ length (awake (described l.consists)))
    × (drop l.at l.out ≡ drop l.at l.initial.out)
