use Rattle.std.proofs.Common.{◌≡◌, ◌+◌, ◌≤◌, length, drop}
use Rattle.train.specs.Truth.{awake}
use Rattle.composition.specs.Meaning.{described}
use Rattle.composition.proofs.reports.awake_within.Given as goal

abbrev pub invariant-loop-consist : goal.invariant-loop-consist
invariant-loop-consist l =
    (length (awake (described l.consists)) + l.free ≡ l.room + length (awake (described (drop l.consist-index l.consists)))) × (l.free ≤ l.room)
