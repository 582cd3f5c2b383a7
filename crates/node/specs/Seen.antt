-- What a node of the code keeps, in the terms of its calls. Assumes nothing.
use Rattle.std.specs.Prelude.{ℕ, List, map, length}
use Rattle.keyed.specs.declared.table.Table.{Table}
use Rattle.keyed.specs.Table.{live}
use Rattle.report.specs.declared.Report as code
use Rattle.report.specs.Reports.{Report, means}
use Rattle.directory.specs.Meaning.{rows_of}
use Rattle.runs.specs.Calls.{State}
use Rattle.node.specs.declared.node.Node.{Node}

-- the reports of a table
abbrev pub held_in : Table code.Report → List Report
held_in t = map means (live t)

-- how many it has places for
abbrev pub room_of : Table code.Report → ℕ
room_of t = length t.slots.now

abbrev pub seen : Node → State
seen n = record {
  mac = n.mac.0;
  room = room_of n.reports;
  held = held_in n.reports;
  holds = n.holds;
  rows = rows_of n.directory;
}
