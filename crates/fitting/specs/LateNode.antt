-- A line before and after one of its nodes wakes up. Assumes nothing.
use Rattle.std.specs.Prelude.{ℕ, List, ◌∷◌, ◌++◌, Some, None, Option}
use Rattle.train.specs.Line.{Way, Node, Coupled, Line}

-- a node that wakes up late under a MAC, and what stands around it: the other nodes of its consist, and the other consists
pub record LateNode : Type 0 where
  pub mac : ℕ
  pub mask : ℕ
  pub before : List Node
  pub behind : List Node
  pub uuid : ℕ
  pub way : Way
  pub left : Line
  pub right : Line

-- its consist, with the MAC under which it is awake, if it is
abbrev pub its_consist : LateNode → Option ℕ → Coupled
its_consist n m = record { consist = record { uuid = n.uuid; nodes = n.before ++ record { mask = n.mask; mac = m } ∷ n.behind }; way = n.way }

-- the line while it sleeps
abbrev pub line_before : LateNode → Line
line_before n = n.left ++ its_consist n None ∷ n.right

-- the line once it is awake
abbrev pub line_after : LateNode → Line
line_after n = n.left ++ its_consist n (Some n.mac) ∷ n.right
