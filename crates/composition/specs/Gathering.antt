-- The nodes that the reading of a line meets, and its directory. Assumes nothing.
use Rattle.std.specs.Prelude.{ℕ, List, [], map, Some, None, Ok, Err, Result}
use Rattle.train.specs.Line.{forward, Node, Coupled, Line}
use Rattle.train.specs.Rows.{Met, Row, rows}
use Rattle.directory.specs.declared.directory.Directory.{Directory}
use Rattle.directory.specs.declared.row.MetNode.{MetNode}
use Rattle.directory.specs.Meaning.{met_means, rows_of}
use Rattle.composition.specs.declared.fault.LineFault.{LineFault}
use Rattle.composition.specs.Standing.{standing}
use Rattle.composition.specs.Faults.{line_fault}

-- what stands past the last consist
abbrev pub nowhere : Coupled
nowhere = record { consist = record { uuid = 0; nodes = [] }; way = forward }

-- a node as it is met; rows do not depend on positions
abbrev pub as_met : Coupled → ℕ × Node → Met
as_met s x = record { uuid = s.consist.uuid; position = 0; mask = x.1.mask; way = s.way }

abbrev pub met_of : Coupled → List Met
met_of s = map (as_met s) (standing s)

abbrev pub nodes_mean : List MetNode → List Met
nodes_mean ns = map met_means ns

-- the directory of a line, or why there is none
abbrev pub directory_answer : Line → Result (List Row) LineFault
directory_answer l = elim (line_fault l) [ None ↦ Ok (rows l) | Some f ↦ Err f ]

abbrev pub directory_told : Result Directory LineFault → Result (List Row) LineFault
directory_told (Ok d) = Ok (rows_of d)
directory_told (Err f) = Err f
