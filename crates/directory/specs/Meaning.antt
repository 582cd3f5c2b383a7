-- What rows, nodes and directories of the code mean. Assumes nothing.
use Rattle.std.specs.Prelude.{ℕ, not, List, map, take, filter, ◌==◌}
use Rattle.report.specs.Reports.{whole}
use Rattle.train.specs.Line.{Way, forward, turned}
use Rattle.train.specs.Rows.{Met, Meeting, Row, rows_met}
use Rattle.directory.specs.declared.row.Way as way
use Rattle.directory.specs.declared.row.Way.TheVariants.{Forward, Turned}
use Rattle.directory.specs.declared.row.Row as row
use Rattle.directory.specs.declared.row.MetNode.{MetNode}
use Rattle.directory.specs.declared.directory.Directory.{Directory}

abbrev pub way_means : way.Way → Way
way_means Forward = forward
way_means Turned = turned

abbrev pub row_means : row.Row → Row
row_means r = record { uuid = whole r.uuid; cn = r.network; subnet = r.subnet; node = r.node; way = way_means r.way }

abbrev pub rows_mean : List row.Row → List Row
rows_mean rows = map row_means rows

-- the rows that are counted
abbrev pub rows_of : Directory → List Row
rows_of d = rows_mean (take d.count d.rows)

-- a row that was never filled
abbrev pub blank : row.Row
blank = record { uuid = record { high = 0; low = 0 }; network = 0; subnet = 0; node = 0; way = Forward }

-- its position is left out: rows do not depend on it
abbrev pub met_means : MetNode → Met
met_means n = record { uuid = whole n.uuid; position = 0; mask = n.mask; way = way_means n.way }

-- node n meets network c
abbrev pub meeting : Met → ℕ → ℕ → Meeting
meeting x n c = record { uuid = x.uuid; cn = c; node = n; way = x.way }

-- the nodes that serve a network: no other has a number
abbrev pub serving : List Met → List Met
serving xs = filter (λ x. not (x.mask == 0)) xs

-- the rows that nodes give, of which there is room for 128
abbrev pub rows_from : List MetNode → List Row
rows_from nodes = take 128 (rows_met (serving (map met_means nodes)))
