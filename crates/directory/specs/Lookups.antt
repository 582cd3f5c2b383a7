-- The questions that a directory answers undo each other. Assumes nothing.
use Rattle.std.specs.Prelude.{◌≡◌, ℕ, ◌≤◌, List, map, length, take, Some}
use Rattle.train.specs.Line.{Line}
use Rattle.train.specs.Truth.{In}
use Rattle.train.specs.Rules.{IsLine}
use Rattle.train.specs.Rows.{reading, counted, Met, met, Row, given, rows_met, rows}
use Rattle.directory.specs.declared.row.MetNode.{MetNode}
use Rattle.directory.specs.Meaning.{met_means, rows_from}
use Rattle.directory.specs.Asked.{place_of, number_of, network_of}

-- subnets and networks
pub record NetworksUndo (rs : List Row) : Type 0 where
  pub network_back : (u c s : ℕ) → given u c rs ≡ Some s → network_of s rs ≡ Some (u, c)
  pub subnet_back : (u c s : ℕ) → network_of s rs ≡ Some (u, c) → given u c rs ≡ Some s

-- node numbers and places
pub record NodesUndo (rs : List Row) : Type 0 where
  pub number_back : (u p n : ℕ) → place_of n rs ≡ Some (u, p) → number_of u p rs ≡ Some n
  pub place_back : (u p n : ℕ) → number_of u p rs ≡ Some n → place_of n rs ≡ Some (u, p)

-- the nodes of one consist are met one way round
abbrev pub OneWay : List Met → Type 0
OneWay xs = (x y : Met) → In x xs → In y xs → x.uuid ≡ y.uuid → x.way ≡ y.way

-- a node without its position
abbrev pub placeless : Met → Met
placeless x = record { uuid = x.uuid; position = 0; mask = x.mask; way = x.way }

pub record Lookups : Type 0 where
  -- in the rows of nodes, of which there is room for 128, networks and subnets undo each other
  pub networks : (xs : List Met) → NetworksUndo (take 128 (rows_met xs))
  -- and so do node numbers and places where no consist is met both ways round
  pub nodes : (xs : List Met) → OneWay xs → NodesUndo (take 128 (rows_met xs))
  -- as in the rows of a line
  pub line : (l : Line) → IsLine l → NodesUndo (take 128 (rows l))
  -- the nodes of a line, as its reading meets them, give the rows of the line
  pub line_rows : (l : Line) (nodes : List MetNode) → IsLine l → map met_means nodes ≡ map placeless (met (reading l)) → rows_from nodes ≡ take 128 (rows l)
  -- and where they are all counted, each node of the reading is found at its place
  pub line_places :
      (l : Line) → IsLine l → length (rows l) ≤ 128 → (k : ℕ) (x : Met) → In (k, x) (counted 1 (met (reading l)))
      → place_of k (take 128 (rows l)) ≡ Some (x.uuid, x.position)
