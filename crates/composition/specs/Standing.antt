-- The nodes of a consist as they are met from the left, and the reports of those that are awake. Assumes nothing.
use Rattle.std.specs.Prelude.{ℕ, List, [], ◌∷◌, reverse, Some, None, Option}
use Rattle.std.specs.List.{flat_map}
use Rattle.report.specs.Reports.{Report}
use Rattle.train.specs.Line.{forward, turned, Node, masks, Coupled}
use Rattle.train.specs.Truth.{Awake, report}
use Rattle.train.specs.Rows.{counted}

-- each behind its position
abbrev pub standing : Coupled → List (ℕ × Node)
standing s = elim s.way [ forward ↦ counted 1 s.consist.nodes | turned ↦ reverse (counted 1 s.consist.nodes) ]

-- what stands past the last
abbrev pub nobody : ℕ × Node
nobody = (0, record { mask = 0; mac = None })

abbrev pub awake_node : Coupled → ℕ → ℕ → Awake
awake_node s p m = record { mac = m; uuid = s.consist.uuid; position = p; masks = masks s.consist; way = s.way }

-- a node at position p, if it is awake
abbrev pub woken : Coupled → ℕ → Option ℕ → List Awake
woken s p (Some m) = awake_node s p m ∷ []
woken s p None = []

-- the awake ones of nodes of a consist
abbrev pub awake_in : Coupled → List (ℕ × Node) → List Awake
awake_in s xs = flat_map (λ x. woken s x.0 x.1.mac) xs

-- the MAC of the first, if there is one
abbrev pub first_awake : List Awake → Option ℕ
first_awake [] = None
first_awake (a ∷ xs) = Some a.mac

-- the MAC of the first, or else r
abbrev pub next_mac : List Awake → ℕ → ℕ
next_mac [] r = r
next_mac (a ∷ xs) r = a.mac

-- the MAC of the last, or else l
abbrev pub last_mac : ℕ → List Awake → ℕ
last_mac l [] = l
last_mac l (a ∷ xs) = last_mac a.mac xs

-- the reports of awake nodes that follow each other between l to the left and r to the right
abbrev pub reports_between : ℕ → List Awake → ℕ → List Report
reports_between l [] r = []
reports_between l (a ∷ xs) r = report l a (next_mac xs r) ∷ reports_between a.mac xs r
