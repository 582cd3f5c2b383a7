use Rattle.std.proofs.Common.{◌≡◌, drop}
use Rattle.report.specs.Reading.{asked, first_wrong}
use Rattle.report.proofs.read.first_wrong.Given as goal

abbrev pub invariant-loop-place : goal.invariant-loop-place
invariant-loop-place l = first_wrong 0 (asked l.words) l.words ≡ first_wrong l.place (drop l.place (asked l.words)) (drop l.place l.words)
