-- Nodes as they are met, without their positions, on which no row depends. Assumes nothing.
use Rattle.std.specs.Prelude.{ℕ, List, map, reverse}
use Rattle.report.specs.Reports.{whole}
use Rattle.train.specs.Line.{Way, forward, turned}
use Rattle.train.specs.Rows.{Met}
use Rattle.directory.specs.Meaning.{way_means}
use Rattle.inauguration.specs.declared.awake.Awake.{Awake}
use Rattle.inauguration.specs.Consists.{masks_of}

abbrev pub plain : Met → Met
plain x = record { uuid = x.uuid; position = 0; mask = x.mask; way = x.way }

-- a turned consist is met at its highest position first
abbrev pub in_order : Way → List ℕ → List ℕ
in_order forward ms = ms
in_order turned ms = reverse ms

abbrev pub node_of : Awake → ℕ → Met
node_of c m = record { uuid = whole c.report.uuid; position = 0; mask = m; way = way_means c.way }

-- the nodes of a consist, as they are met
abbrev pub consist_nodes : Awake → List Met
consist_nodes c = map (node_of c) (in_order (way_means c.way) (masks_of c))
