use Rattle.std.proofs.Common.{◌≡◌, ◌+◌, ◌++◌, map, length, drop}
use Rattle.composition.specs.Meaning.{consist_means}
use Rattle.composition.specs.Standing.{standing}
use Rattle.composition.specs.Gathering.{as_met, met_of, nodes_mean}
use Rattle.composition.proofs.reading.put_nodes.Given as goal

abbrev pub invariant-loop-step : goal.invariant-loop-step
invariant-loop-step l =
    let s = consist_means l.consist in
    (nodes_mean l.nodes.items ++ map (as_met s) (drop l.step (standing s)) ≡ nodes_mean l.initial.nodes.items ++ met_of s)
    × (length l.nodes.items ≡ length l.initial.nodes.items + l.step)
