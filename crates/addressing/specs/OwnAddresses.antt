-- Under a lawful plan each device of a line whose place is served has an address of its own. Assumes nothing.
use Rattle.std.specs.Prelude.{◌≡◌, ℕ, ◌≤◌, length, Some, Ok, Option}
use Rattle.train.specs.Line.{Coupled, Line}
use Rattle.train.specs.Truth.{In}
use Rattle.train.specs.Rules.{consist_networks, IsLine, Within}
use Rattle.train.specs.Rows.{counted, placed_nodes, Row, rows}
use Rattle.plan.specs.Meaning.{Lawful}
use Rattle.addressing.specs.Devices.{Device, host, node}
use Rattle.addressing.specs.Addressing.{addressed, traced}

-- device d of the line has place p
abbrev pub HasPlace : Line → Device → ℕ × ℕ → Type 0
HasPlace l (host u c h) p = (r : Row) × In r (rows l) × (r.uuid ≡ u) × (r.cn ≡ c) × (h ≤ 16383) × (p ≡ (r.subnet, h))
HasPlace l (node u k) p = (n : ℕ) × In (n, (u, k)) (counted 1 (placed_nodes l)) × (p ≡ (0, n))

pub record OwnAddresses (serves : ℕ × ℕ → Option ℕ) (stands : ℕ → Option (ℕ × ℕ)) (l : Line) : Type 0 where
  -- each host of a network of the line has a place
  pub host_place : (s : Coupled) (c h : ℕ) → In s l → In c (consist_networks s.consist) → h ≤ 16383
      → (p : ℕ × ℕ) × HasPlace l (host s.consist.uuid c h) p
  -- and so has each node, awake or asleep
  pub node_place : (s : Coupled) (k : ℕ) → In s l → 1 ≤ k → k ≤ length s.consist.nodes → (p : ℕ × ℕ) × HasPlace l (node s.consist.uuid k) p
  -- where it is served, the device gets that place's address
  pub gets : (d : Device) (p : ℕ × ℕ) (a : ℕ) → HasPlace l d p → serves p ≡ Some a → addressed serves (rows l) d ≡ Ok a
  -- and it gets no other
  pub gets_only : (d : Device) (a : ℕ) → addressed serves (rows l) d ≡ Ok a → (p : ℕ × ℕ) × HasPlace l d p × (serves p ≡ Some a)
  -- a trace of the address answers this device
  pub back : (d : Device) (p : ℕ × ℕ) (a : ℕ) → HasPlace l d p → serves p ≡ Some a → traced stands (rows l) a ≡ Ok d
  -- and a trace answers no device but one whose place has the address
  pub back_only : (d : Device) (a : ℕ) → traced stands (rows l) a ≡ Ok d → (p : ℕ × ℕ) × HasPlace l d p × (serves p ≡ Some a)
  -- no other device gets it
  pub alone : (d e : Device) (p : ℕ × ℕ) (a : ℕ) → HasPlace l d p → serves p ≡ Some a → addressed serves (rows l) e ≡ Ok a → e ≡ d

-- whatever the plan and the line
abbrev pub OwnAddress : Type 0
OwnAddress =
    (serves : ℕ × ℕ → Option ℕ) (stands : ℕ → Option (ℕ × ℕ)) → Lawful serves stands → (l : Line) → IsLine l → Within l → OwnAddresses serves stands l
