use Rattle.std.proofs.Common.{◌≡◌, ◌+◌, ◌-◌, ◌≤◌, get_or, take, drop}
use Rattle.report.specs.Reports.{whole}
use Rattle.train.specs.Rows.{given as subnet_given, rows_met}
use Rattle.directory.specs.Meaning.{rows_mean, met_means}
use Rattle.directory.proofs.Filling.{Round, Turn, no_node, behind}
use Rattle.directory.proofs.fill.fill.Given as goal

abbrev pub invariant-rows : goal.invariant-rows
invariant-rows l = Round l.nodes l.node-index l.number l.draft.rows l.draft.count l.top

abbrev pub invariant-loop-network : goal.invariant-loop-network
invariant-loop-network l =
    Turn (met_means (get_or l.nodes l.node-index no_node)) (behind l.nodes (l.node-index + 1)) (rows_met (behind l.nodes 0))
    l.number l.network l.draft.rows l.draft.count l.top

abbrev pub invariant-loop-k : goal.invariant-loop-k
invariant-loop-k l =
    (l.k ≤ l.draft.count) × (l.top ≡ l.initial.top)
    × (subnet_given (whole l.node.uuid) l.network (rows_mean (drop l.k (take l.draft.count l.draft.rows)))
    ≡ subnet_given (whole l.node.uuid) l.network (rows_mean (take l.draft.count l.draft.rows)))

abbrev pub decreases-loop-k : goal.decreases-loop-k
decreases-loop-k l = l.draft.count - l.k
