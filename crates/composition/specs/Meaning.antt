-- What described nodes, consists and trains mean. Assumes nothing.
use Rattle.std.specs.Prelude.{ℕ, cond, List, [], map, take, nat_le}
use Rattle.std.specs.Option.{option_map}
use Rattle.report.specs.Reports.{whole}
use Rattle.train.specs.Line.{Node, Coupled, Line}
use Rattle.directory.specs.Meaning.{way_means}
use Rattle.composition.specs.declared.consist.Node as node
use Rattle.composition.specs.declared.consist.Consist as consist
use Rattle.composition.specs.declared.consist.Placed as placed

abbrev pub node_means : node.Node → Node
node_means n = record { mask = n.mask; mac = option_map (λ m. m.0) n.mac }

abbrev pub masks_of : List node.Node → List ℕ
masks_of ns = map (λ n. n.mask) (map node_means ns)

-- the nodes that count: none where their count is out of range
abbrev pub nodes_of : consist.Consist → List node.Node
nodes_of c = cond (nat_le c.count 4) (take c.count c.nodes) []

abbrev pub consist_means : consist.Consist → Coupled
consist_means c = record {
  consist = record { uuid = whole c.uuid; nodes = map node_means (nodes_of c) };
  way = way_means c.way;
}

abbrev pub placed_means : placed.Placed → ℕ × Node
placed_means x = (x.position, node_means x.node)

-- the line that a row of consists describes
abbrev pub described : List consist.Consist → Line
described cs = map consist_means cs
