use Rattle.std.proofs.Common.{drop}
use Rattle.keyed.specs.Table.{live}
use Rattle.inauguration.specs.Meaning.{nodes_mean}
use Rattle.inauguration.proofs.Gathered.{Gathered}
use Rattle.inauguration.proofs.gather.gather.Given as goal

abbrev pub invariant-loop-node : goal.invariant-loop-node
invariant-loop-node l = Gathered (nodes_mean l.node-items) (drop l.node-index l.node-items) (live l.table) l.table.slots.now l.consists.items
