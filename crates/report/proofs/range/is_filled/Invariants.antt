use Rattle.std.proofs.Common.{◌≡◌, ◌-◌, drop}
use Rattle.report.specs.Reports.{filled}
use Rattle.report.proofs.range.is_filled.Given as goal

abbrev pub invariant-loop-i : goal.invariant-loop-i
invariant-loop-i l = filled l.nodes l.masks ≡ filled (l.nodes - l.i) (drop l.i l.masks)
