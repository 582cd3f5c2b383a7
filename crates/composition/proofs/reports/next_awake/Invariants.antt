use Rattle.std.proofs.Common.{◌≡◌, drop}
use Rattle.composition.specs.Meaning.{consist_means}
use Rattle.composition.specs.Standing.{standing, awake_in}
use Rattle.composition.proofs.reports.next_awake.Given as goal

abbrev pub invariant-loop-i : goal.invariant-loop-i
invariant-loop-i l =
    let s = consist_means l.consist in
    awake_in s (drop l.step (standing s)) ≡ awake_in s (drop l.i (standing s))
