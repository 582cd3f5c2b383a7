-- What is proved of lines, their reports and their directories. Assumes nothing.
use Rattle.std.specs.Prelude.{◌≡◌, ℕ, ◌≤◌, true, ◌⊎◌, List, [], ◌∷◌, map, length}
use Rattle.std.specs.List.{AllByRecursion}
use Rattle.report.specs.Reports.{Report}
use Rattle.train.specs.Line.{Coupled, Line, flip}
use Rattle.train.specs.Truth.{true_reports, In, Fits}
use Rattle.train.specs.Rules.{networks, consist_networks, Different, uuids, IsConsist, IsLine, node_count, network_count, bit_count, Within}
use Rattle.train.specs.Rows.{reading, counted, Met, met, numbered_nodes, placed_nodes, Row, rows}
use Rattle.train.specs.Bytes.{big_endian, direction, row_word, counter}
use Rattle.train.specs.Agreement.{skeleton, Agree}
use Rattle.train.specs.Numbers.{RunsTo, Rising, climbs}

-- which lines fit given reports
pub record FitsOneLine : Type 0 where
  -- two lines that fit the same reports are one line, read from one end or the other
  pub one : (held : List Report) (l k : Line) → IsLine l → IsLine k → Fits l held → Fits k held → (k ≡ l) ⊎ (k ≡ flip l)
  -- read from its other end, a line is a line
  pub flip_is_line : (l : Line) → IsLine l → IsLine (flip l)
  -- and fits the same reports
  pub flip_fits : (held : List Report) (l : Line) → Fits l held → Fits (flip l) held
  -- and its other end is the first end again
  pub flip_flip : (l : Line) → flip (flip l) ≡ l
  -- a line fits its own true reports
  pub fits_own : (l : Line) → Fits l (true_reports l)
  -- there is a line within the limits
  pub some_line : (l : Line) × IsLine l × Within l

-- which lines give one directory
pub record OneDirectory : Type 0 where
  -- a line gives the same rows from both ends
  pub either_end : (l : Line) → IsLine l → rows (flip l) ≡ rows l
  -- rows depend on the skeleton alone
  pub skeleton_alone : (l k : Line) → skeleton k ≡ skeleton l → rows k ≡ rows l
  -- lines that agree are read as the same nodes in the same order
  pub same_nodes : (l k : Line) → IsLine l → Agree l k → met (reading k) ≡ met (reading l)
  -- and give the same rows and the same counter
  pub agreeing : (l k : Line) → IsLine l → Agree l k → (rows k ≡ rows l) × (counter k ≡ counter l)
  -- and so do lines that fit the same reports
  pub fitting : (held : List Report) (l k : Line) → IsLine l → IsLine k → Fits l held → Fits k held → (rows k ≡ rows l) × (counter k ≡ counter l)

-- agreement, and the rules that do not depend on who is awake
pub record Agreement : Type 0 where
  -- a line agrees with itself
  pub itself : (l : Line) → Agree l l
  -- agreement holds both ways
  pub both_ways : (l k : Line) → Agree l k → Agree k l
  -- lines that agree with one line agree with each other
  pub onward : (l k j : Line) → Agree l k → Agree k j → Agree l j
  -- the limits hold for all lines that agree, or for none
  pub limits : (l k : Line) → Agree l k → Within l → Within k
  -- and so do the rules on each consist
  pub consists : (l k : Line) → Agree l k → AllByRecursion (λ s. IsConsist s.consist) l → AllByRecursion (λ s. IsConsist s.consist) k
  -- and that UUIDs differ
  pub own_uuids : (l k : Line) → Agree l k → Different (uuids l) → Different (uuids k)

-- how the rows of a line number its nodes and networks
pub record NumberedLine (l : Line) : Type 0 where
  -- there is a row
  pub some_row : 1 ≤ length (rows l)
  -- node numbers are those from 1 to the number of nodes
  pub nodes : RunsTo (node_count l) (map (λ r. r.node) (rows l))
  -- they rise from row to row
  pub nodes_rise : Rising (map (λ r. r.node) (rows l))
  -- each first occurs after those below it
  pub nodes_climb : climbs 0 (map (λ r. r.node) (rows l)) ≡ true
  -- node k of the reading has a row
  pub node_row : (k : ℕ) (x : Met) → In (k, x) (numbered_nodes l) → (r : Row) × In r (rows l) × (r.node ≡ k) × (r.uuid ≡ x.uuid)
  -- and one for each network that it serves
  pub network_row : (k n : ℕ) (x : Met) → In (k, x) (numbered_nodes l) → In n (networks x.mask)
      → (r : Row) × In r (rows l) × (r.node ≡ k) × (r.cn ≡ n) × (r.uuid ≡ x.uuid) × (r.way ≡ x.way)
  -- each row is of the node of the reading with its number, and of a network that this node serves
  pub row_node : (r : Row) → In r (rows l)
      → (x : Met) × In (r.node, x) (numbered_nodes l) × In r.cn (networks x.mask) × (r.uuid ≡ x.uuid) × (r.way ≡ x.way)
  -- subnets are those from 1 to the number of networks
  pub subnets : RunsTo (network_count l) (map (λ r. r.subnet) (rows l))
  -- each first occurs after those below it
  pub subnets_climb : climbs 0 (map (λ r. r.subnet) (rows l)) ≡ true
  -- two rows with one subnet have one UUID and one network
  pub one_network : (r s : Row) → In r (rows l) → In s (rows l) → r.subnet ≡ s.subnet → (r.uuid ≡ s.uuid) × (r.cn ≡ s.cn)
  -- two rows with one UUID and one network have one subnet
  pub one_subnet : (r s : Row) → In r (rows l) → In s (rows l) → r.uuid ≡ s.uuid → r.cn ≡ s.cn → r.subnet ≡ s.subnet

-- the nodes of the reading, with their UUIDs and positions, and the networks of the rows are those of the line
pub record PlacedLine (l : Line) : Type 0 where
  -- a node number has one UUID and one position
  pub one_place : (k : ℕ) (p q : ℕ × ℕ) → In (k, p) (counted 1 (placed_nodes l)) → In (k, q) (counted 1 (placed_nodes l)) → p ≡ q
  -- a UUID and a position have one node number
  pub one_number : (j k : ℕ) (p : ℕ × ℕ) → In (j, p) (counted 1 (placed_nodes l)) → In (k, p) (counted 1 (placed_nodes l)) → j ≡ k
  -- no two nodes have the same UUID and position
  pub own_places : Different (placed_nodes l)
  -- each position of a consist of the line has a number
  pub placed : (s : Coupled) (p : ℕ) → In s l → 1 ≤ p → p ≤ length s.consist.nodes → In (s.consist.uuid, p) (placed_nodes l)
  -- each node of the reading is at a position of a consist of the line
  pub of_consist : (u p : ℕ) → In (u, p) (placed_nodes l)
      → (s : Coupled) × In s l × (u ≡ s.consist.uuid) × (1 ≤ p) × (p ≤ length s.consist.nodes)
  -- the networks of a consist are those from 1 to their number
  pub networks_run : (s : Coupled) → In s l → RunsTo (length (consist_networks s.consist)) (consist_networks s.consist)
  -- each network of a consist of the line has a row
  pub has_row : (s : Coupled) (n : ℕ) → In s l → In n (consist_networks s.consist)
      → (r : Row) × In r (rows l) × (r.uuid ≡ s.consist.uuid) × (r.cn ≡ n)
  -- each row is of a network of a consist of the line
  pub row_of : (r : Row) → In r (rows l) → (s : Coupled) × In s l × (r.uuid ≡ s.consist.uuid) × In r.cn (consist_networks s.consist)

-- both hold for every line, limits aside
abbrev pub Numbered : Type 0
Numbered = (l : Line) → IsLine l → NumberedLine l × PlacedLine l

-- how many nodes and rows there are, limits aside
pub record Counts (l : Line) : Type 0 where
  -- each node is met once in the reading
  pub nodes : length (placed_nodes l) ≡ node_count l
  -- each set mask bit gives one row
  pub rows : length (rows l) ≡ bit_count l

-- the values of a row fit their bits
pub record RowFits (r : Row) : Type 0 where
  -- the network is from 1 to 8
  pub cn : (1 ≤ r.cn) × (r.cn ≤ 8)
  -- the subnet is from 1 to 63
  pub subnet : (1 ≤ r.subnet) × (r.subnet ≤ 63)
  -- the node number is from 1 to 63
  pub node : (1 ≤ r.node) × (r.node ≤ 63)
  -- each has a byte of the word to itself
  pub bytes : big_endian 4 (row_word r) ≡ r.cn ∷ r.subnet ∷ r.node ∷ direction r.way ∷ []

-- what the limits bound
pub record LimitsSuffice : Type 0 where
  -- the numbers of nodes and of rows are those that the limits bound
  pub counts : (l : Line) → Counts l
  -- within the limits there are at most 128 rows
  pub few_rows : (l : Line) → Within l → length (rows l) ≤ 128
  -- and each fits its bits
  pub rows_fit : (l : Line) → IsLine l → Within l → AllByRecursion RowFits (rows l)
