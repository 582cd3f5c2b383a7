use Rattle.std.proofs.Common.{◌≡◌, drop}
use Rattle.train.specs.Truth.{awake}
use Rattle.composition.specs.Meaning.{described}
use Rattle.composition.proofs.reports.first_mac.Given as goal

abbrev pub invariant-loop-consist : goal.invariant-loop-consist
invariant-loop-consist l = awake (described l.consists) ≡ awake (described (drop l.consist-index l.consists))
