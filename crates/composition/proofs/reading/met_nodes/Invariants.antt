use Rattle.std.proofs.Common.{◌≡◌, ◌+◌, ◌++◌, length, drop}
use Rattle.std.specs.List.{flat_map}
use Rattle.train.specs.Rules.{node_count}
use Rattle.train.specs.Rows.{reading}
use Rattle.composition.specs.Meaning.{described}
use Rattle.composition.specs.Gathering.{met_of, nodes_mean}
use Rattle.composition.proofs.reading.met_nodes.Given as goal

abbrev pub invariant-loop-place : goal.invariant-loop-place
invariant-loop-place l =
    let read = reading (described l.consists) in
    (nodes_mean l.nodes.items ++ flat_map met_of (drop l.place read) ≡ flat_map met_of read)
    × (length l.nodes.items + node_count (drop l.place read) ≡ node_count read)
