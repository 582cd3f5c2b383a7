-- What a directory is asked, by its rows. Assumes nothing.
use Rattle.std.specs.Prelude.{ℕ, ◌+◌, ◌-◌, min, max, Bool, ◌&&◌, List, map, fold, filter, find, Option, option_map, ◌==◌}
use Rattle.train.specs.Line.{Way, forward, turned}
use Rattle.train.specs.Rows.{Row}

-- the lowest and the highest of numbers and n
abbrev pub lowest : ℕ → List ℕ → ℕ
lowest n xs = fold min n xs

abbrev pub highest : ℕ → List ℕ → ℕ
highest n xs = fold max n xs

-- the node numbers of a consist
abbrev pub nodes_of : ℕ → List Row → List ℕ
nodes_of u rs = map (λ r. r.node) (filter (λ r. r.uuid == u) rs)

-- the position of node n in a consist whose nodes are those from `low` to `high`, counted from its end 1
abbrev pub position : Way → ℕ → ℕ → ℕ → ℕ
position forward n low high = n - low + 1
position turned n low high = high - n + 1

-- of a row's node
abbrev pub position_in : List Row → Row → ℕ
position_in rs r =
    let ns = nodes_of r.uuid rs in
    position r.way r.node (lowest r.node ns) (highest r.node ns)

-- the UUID and the position of the node with this number
abbrev pub place_of : ℕ → List Row → Option (ℕ × ℕ)
place_of n rs = option_map (λ r. (r.uuid, position_in rs r)) (find (λ r. r.node == n) rs)

-- a row of consist u whose node has position p
abbrev pub is_at : List Row → ℕ → ℕ → Row → Bool
is_at rs u p r = r.uuid == u && position_in rs r == p

-- the number of the node at position p of consist u
abbrev pub number_of : ℕ → ℕ → List Row → Option ℕ
number_of u p rs = option_map (λ r. r.node) (find (is_at rs u p) rs)

-- the UUID and the network of a subnet; `given` says the subnet of a consist's network
abbrev pub network_of : ℕ → List Row → Option (ℕ × ℕ)
network_of s rs = option_map (λ r. (r.uuid, r.cn)) (find (λ r. r.subnet == s) rs)
