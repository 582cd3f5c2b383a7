use Rattle.std.proofs.Common.{◌≡◌, drop}
use Rattle.composition.specs.Meaning.{described}
use Rattle.composition.specs.Faults.{consists_fault}
use Rattle.composition.proofs.rules.check_consists.Given as goal

abbrev pub invariant-loop-place : goal.invariant-loop-place
invariant-loop-place l = consists_fault 0 (described l.consists) ≡ consists_fault l.place (described (drop l.place l.consists))
