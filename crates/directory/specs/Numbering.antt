-- The node and the subnet numbers of rows run from 1 without a gap. Assumes nothing.
use Rattle.std.specs.Prelude.{◌≡◌, true, List, map}
use Rattle.train.specs.Numbers.{climbs}
use Rattle.directory.specs.declared.row.Row as code

abbrev pub NodesRun : List code.Row → Type 0
NodesRun rows = climbs 0 (map (λ r. r.node) rows) ≡ true

abbrev pub SubnetsRun : List code.Row → Type 0
SubnetsRun rows = climbs 0 (map (λ r. r.subnet) rows) ≡ true
