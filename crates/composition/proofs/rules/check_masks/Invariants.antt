use Rattle.std.proofs.Common.{◌≡◌, ◌+◌, map, drop}
use Rattle.composition.specs.Meaning.{node_means}
use Rattle.composition.specs.Faults.{mask_fault}
use Rattle.composition.proofs.rules.check_masks.Given as goal

abbrev pub invariant-loop-i : goal.invariant-loop-i
invariant-loop-i l = mask_fault 1 (map node_means l.nodes) ≡ mask_fault (l.i + 1) (map node_means (drop l.i l.nodes))
