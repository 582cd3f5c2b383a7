-- Devices, and their places by the rows of a directory. Assumes nothing.
use Rattle.std.specs.Prelude.{ℕ, cond, List, Option, option_map, option_and_then, ◌==◌}
use Rattle.report.specs.Reports.{whole}
use Rattle.train.specs.Rows.{Row, given}
use Rattle.directory.specs.Asked.{place_of, number_of, network_of}
use Rattle.plan.specs.Places.{placed}
use Rattle.addressing.specs.declared.device.Device as code
use Rattle.addressing.specs.declared.device.Device.TheVariants.{Host, Node}

-- host h of network c of consist u, or the node at position k of consist u
pub data Device : Type 0 where
  host : (u c h : ℕ) → Device
  node : (u k : ℕ) → Device

abbrev pub device_means : code.Device → Device
device_means (Host u c h) = host (whole u) c h
device_means (Node u k) = node (whole u) k

abbrev pub device_told : Option code.Device → Option Device
device_told o = option_map device_means o

-- a host is in the subnet of its network; a node is in subnet 0, under its number
abbrev pub device_place : List Row → Device → Option (ℕ × ℕ)
device_place rs (host u c h) = option_and_then (λ s. placed (s, h)) (given u c rs)
device_place rs (node u k) = option_and_then (λ n. placed (0, n)) (number_of u k rs)

-- in subnet 0 the host is the number of a node; in another the subnet is that of a network, and the host may be any
abbrev pub device_at : List Row → ℕ × ℕ → Option Device
device_at rs p =
    cond (p.0 == 0) (option_map (λ q. node q.0 q.1) (place_of p.1 rs)) (option_map (λ q. host q.0 q.1 p.1) (network_of p.0 rs))
