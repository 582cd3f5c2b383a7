-- Consists and lines of them. Assumes nothing.
use Rattle.std.specs.Prelude.{ℕ, List, map, reverse, Option}

-- how a consist stands in a line: forward, with its end 1 to the left, or turned
pub data Way : Type 0 where
  forward : Way
  turned : Way

abbrev pub other : Way → Way
other forward = turned
other turned = forward

-- a backbone node: the mask of the networks that it serves, and its MAC where it is awake
pub record Node : Type 0 where
  pub mask : ℕ
  pub mac : Option ℕ

-- its nodes are counted from end 1
pub record Consist : Type 0 where
  pub uuid : ℕ
  pub nodes : List Node

abbrev pub masks : Consist → List ℕ
masks c = map (λ n. n.mask) c.nodes

-- a consist in a line
pub record Coupled : Type 0 where
  pub consist : Consist
  pub way : Way

-- from left to right
abbrev pub Line : Type 0
Line = List Coupled

abbrev pub turn : Coupled → Coupled
turn s = record { consist = s.consist; way = other s.way }

-- the same line, read from its other end
abbrev pub flip : Line → Line
flip l = reverse (map turn l)
