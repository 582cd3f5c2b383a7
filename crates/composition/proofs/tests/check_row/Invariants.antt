use Rattle.std.proofs.Common.{◌≡◌, length}
use Rattle.composition.proofs.tests.check_row.Given as goal

abbrev pub invariant-loop-i : goal.invariant-loop-i
invariant-loop-i l = length l.row ≡ 64
