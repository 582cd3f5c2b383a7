-- How a line is read, and the rows of its directory. Assumes nothing.
use Rattle.std.specs.Prelude.{ℕ, ◌+◌, cond, ◌&&◌, List, [], ◌∷◌, ◌++◌, map, reverse, length, Some, None, Option, ◌==◌, nat_lt}
use Rattle.std.specs.List.{flat_map}
use Rattle.train.specs.Line.{Way, forward, turned, masks, Line, flip}
use Rattle.train.specs.Rules.{networks}

-- the UUID of the consist at the left end
abbrev pub left : Line → ℕ
left [] = 0
left (s ∷ l) = s.consist.uuid

-- a line of one consist is read forward, any other from the end whose outermost consist has the smaller UUID
abbrev pub reading : Line → Line
reading [] = []
reading (s ∷ []) = record { consist = s.consist; way = forward } ∷ []
reading (s ∷ t ∷ l) = let r = flip (s ∷ t ∷ l) in cond (nat_lt (left (s ∷ t ∷ l)) (left r)) (s ∷ t ∷ l) r

-- the elements of a list, each behind its number, from n on
abbrev pub counted : {A : Type 0} → ℕ → List A → List (ℕ × A)
counted n [] = []
counted n (x ∷ xs) = (n, x) ∷ counted (n + 1) xs

-- a node as it is met in the reading, awake or asleep
pub record Met : Type 0 where
  pub uuid : ℕ
  pub position : ℕ
  pub mask : ℕ
  pub way : Way

-- the nodes of a consist by rising position
abbrev pub nodes_in : ℕ → List ℕ → Way → List Met
nodes_in u ms w = map (λ n. record { uuid = u; position = n.0; mask = n.1; way = w }) (counted 1 ms)

-- a turned consist is met at its highest position first
abbrev pub met_in : ℕ → List ℕ → Way → List Met
met_in u ms forward = nodes_in u ms forward
met_in u ms turned = reverse (nodes_in u ms turned)

abbrev pub met : Line → List Met
met l = flat_map (λ s. met_in s.consist.uuid (masks s.consist) s.way) l

-- the nodes of the reading, each behind its number
abbrev pub numbered_nodes : Line → List (ℕ × Met)
numbered_nodes l = counted 1 (met (reading l))

-- the UUID and the position of each, in the same order
abbrev pub placed_nodes : Line → List (ℕ × ℕ)
placed_nodes l = map (λ x. (x.uuid, x.position)) (met (reading l))

-- a node meets a network of its consist
pub record Meeting : Type 0 where
  pub uuid : ℕ
  pub cn : ℕ
  pub node : ℕ
  pub way : Way

-- node by node, numbered from n on, and within a node by rising network
abbrev pub meetings : ℕ → List Met → List Meeting
meetings n [] = []
meetings n (x ∷ xs) = map (λ c. record { uuid = x.uuid; cn = c; node = n; way = x.way }) (networks x.mask) ++ meetings (n + 1) xs

pub record Row : Type 0 where
  pub uuid : ℕ
  pub cn : ℕ
  pub subnet : ℕ
  pub node : ℕ
  pub way : Way

abbrev pub row : Meeting → ℕ → Row
row m s = record { uuid = m.uuid; cn = m.cn; subnet = s; node = m.node; way = m.way }

-- the subnet that a row gave to network c of consist u, if one did
abbrev pub given : ℕ → ℕ → List Row → Option ℕ
given u c [] = None
given u c (r ∷ rs) = cond (r.uuid == u && r.cn == c) (Some r.subnet) (given u c rs)

-- the first row that meets a network gives it the next subnet number, later rows repeat it; `firsts` are the first rows so far
abbrev pub numbered : List Row → List Meeting → List Row
numbered firsts [] = []
numbered firsts (m ∷ ms) =
    let next = row m (length firsts + 1) in
    elim (given m.uuid m.cn firsts) [ Some s ↦ row m s ∷ numbered firsts ms | None ↦ next ∷ numbered (next ∷ firsts) ms ]

-- the rows of nodes in the order in which they are met
abbrev pub rows_met : List Met → List Row
rows_met xs = numbered [] (meetings 1 xs)

abbrev pub rows : Line → List Row
rows l = rows_met (met (reading l))
