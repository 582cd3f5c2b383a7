-- The rules on lines, and the three limits apart. Assumes nothing.
use Rattle.std.specs.Prelude.{◌≡◌, ℕ, ◌+◌, ◌^◌, ◌<◌, ◌≤◌, true, List, [], ◌∷◌, map, length, ◌≢◌}
use Rattle.std.specs.List.{AllByRecursion}
use Rattle.report.specs.Masks.{together, gapless}
pub use Rattle.report.specs.Masks.{networks, set_bits}
use Rattle.train.specs.Line.{Consist, masks, Line}
use Rattle.train.specs.Truth.{Awake, awake_of, awake}

-- the networks of a consist: those that one of its nodes serves
abbrev pub consist_networks : Consist → List ℕ
consist_networks c = networks (together (masks c))

-- each differs from all behind it
abbrev pub Different : {A : Type 0} → List A → Type 0
Different [] = Unit {0}
Different (x ∷ xs) = AllByRecursion (λ y. x ≢ y) xs × Different xs

abbrev pub uuids : Line → List ℕ
uuids l = map (λ s. s.consist.uuid) l

abbrev pub macs : List Awake → List ℕ
macs xs = map (λ a. a.mac) xs

abbrev pub IsMac : ℕ → Type 0
IsMac m = (1 ≤ m) × (m < 2 ^ 48)

abbrev pub IsUuid : ℕ → Type 0
IsUuid u = (1 ≤ u) × (u < 2 ^ 128)

pub record IsConsist (c : Consist) : Type 0 where
  pub named : IsUuid c.uuid
  pub some_node : 1 ≤ length c.nodes
  pub few_nodes : length c.nodes ≤ 4
  pub some_network : AllByRecursion (λ m. (1 ≤ m) × (m ≤ 255)) (masks c)
  pub no_gap : gapless (masks c) ≡ true

-- a line, its limits aside
pub record IsLine (l : Line) : Type 0 where
  pub some_consist : 1 ≤ length l
  pub consists : AllByRecursion (λ s. IsConsist s.consist) l
  pub some_awake : AllByRecursion (λ s. 1 ≤ length (awake_of s)) l
  pub own_uuids : Different (uuids l)
  pub real_macs : AllByRecursion IsMac (macs (awake l))
  pub own_macs : Different (macs (awake l))

-- a sum over the consists
abbrev pub total : (Consist → ℕ) → Line → ℕ
total f [] = 0
total f (s ∷ l) = f s.consist + total f l

-- the nodes of a line, awake or asleep
abbrev pub node_count : Line → ℕ
node_count l = total (λ c. length c.nodes) l

-- its networks, each of each consist once
abbrev pub network_count : Line → ℕ
network_count l = total (λ c. length (consist_networks c)) l

-- the set mask bits of its nodes
abbrev pub bit_count : Line → ℕ
bit_count l = total (λ c. set_bits (masks c)) l

-- the limits
pub record Within (l : Line) : Type 0 where
  pub nodes : node_count l ≤ 63
  pub networked : network_count l ≤ 63
  pub bits : bit_count l ≤ 128
