use Rattle.std.proofs.Common.{◌≡◌, ◌+◌, ◌++◌, map, length, take, drop}
use Rattle.train.specs.Truth.{awake_of}
use Rattle.composition.specs.Meaning.{consist_means}
use Rattle.composition.specs.Standing.{standing, awake_in, last_mac, reports_between}
use Rattle.composition.specs.Sending.{coded}
use Rattle.composition.proofs.reports.put_consist.Given as goal

abbrev pub invariant-loop-step : goal.invariant-loop-step
invariant-loop-step l =
    let s = consist_means l.consist in
    let rest = awake_in s (drop l.step (standing s)) in
    (take l.end l.out ++ map coded (reports_between l.last.0 rest l.between.right.0)
    ≡ take l.at l.initial.out ++ map coded (reports_between l.initial.last.0 (awake_of s) l.between.right.0))
    × (last_mac l.last.0 rest ≡ last_mac l.initial.last.0 (awake_of s))
    × (l.end + length rest ≡ l.at + length (awake_of s))
    × (drop l.end l.out ≡ drop l.end l.initial.out)
