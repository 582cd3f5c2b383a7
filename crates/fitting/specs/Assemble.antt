-- The line whose awake nodes are these, assembled node by node from the left. Assumes nothing.
use Rattle.std.specs.Prelude.{ℕ, ◌+◌, Bool, true, false, cond, ◌&&◌, ◌||◌, List, [], ◌∷◌, ◌++◌, map, Some, None, Option, ◌==◌, nat_lt}
use Rattle.train.specs.Line.{Way, forward, turned, Node, masks, Coupled, Line}
use Rattle.train.specs.Truth.{Awake}
use Rattle.train.specs.Rules.{uuids}

abbrev pub same_way : Way → Way → Bool
same_way forward forward = true
same_way forward turned = false
same_way turned forward = false
same_way turned turned = true

abbrev pub same_masks : List ℕ → List ℕ → Bool
same_masks [] [] = true
same_masks [] (n ∷ ns) = false
same_masks (m ∷ ms) [] = false
same_masks (m ∷ ms) (n ∷ ns) = m == n && same_masks ms ns

-- whether UUID u is one of these
abbrev pub among : ℕ → List ℕ → Bool
among u [] = false
among u (v ∷ vs) = u == v || among u vs

-- whether position q is met behind position p
abbrev pub behind : Way → ℕ → ℕ → Bool
behind forward p q = nat_lt p q
behind turned p q = nat_lt q p

-- the nodes with these masks, all asleep
abbrev pub asleep : List ℕ → List Node
asleep ms = map (λ m. record { mask = m; mac = None }) ms

-- of nodes from position q on, the one at position p wakes under a MAC
abbrev pub wake : ℕ → ℕ → ℕ → List Node → List Node
wake q p m [] = []
wake q p m (n ∷ ns) = record { mask = n.mask; mac = cond (q == p) (Some m) n.mac } ∷ wake (q + 1) p m ns

-- a consist with one more node awake
abbrev pub woken : Awake → Coupled → Coupled
woken a s = record { consist = record { uuid = s.consist.uuid; nodes = wake 1 a.position a.mac s.consist.nodes }; way = s.way }

-- the consist of which a node is met first: all others are asleep
abbrev pub begun : Awake → Coupled
begun a = woken a (record { consist = record { uuid = a.uuid; nodes = asleep a.masks }; way = a.way })

-- the consists that are finished, the one being assembled, and the position of its node met last
pub record Part : Type 0 where
  pub finished : Line
  pub growing : Coupled
  pub last : ℕ

-- whether a node with the UUID of the consist being assembled goes on with it
abbrev pub goes_on : Part → Awake → Bool
goes_on b a =
    same_masks a.masks (masks b.growing.consist) && same_way a.way b.growing.way && behind b.growing.way b.last a.position

-- the node wakes in the consist being assembled
abbrev pub grown : Part → Awake → Part
grown b a = record { finished = b.finished; growing = woken a b.growing; last = a.position }

-- that consist is finished, and the node begins another
abbrev pub next : Part → Awake → Part
next b a = record { finished = b.finished ++ b.growing ∷ []; growing = begun a; last = a.position }

-- one more node; a UUID does not come back after another consist
abbrev pub put : Part → Awake → Option Part
put b a =
    cond (a.uuid == b.growing.consist.uuid)
    (cond (goes_on b a) (Some (grown b a)) None)
    (cond (among a.uuid (uuids b.finished)) None (Some (next b a)))

abbrev pub all_of : Part → Line
all_of b = b.finished ++ b.growing ∷ []

abbrev pub put_all : Part → List Awake → Option Line
put_all b [] = Some (all_of b)
put_all b (a ∷ xs) = elim (put b a) [ Some c ↦ put_all c xs | None ↦ None ]

abbrev pub first_part : Awake → Part
first_part a = record { finished = []; growing = begun a; last = a.position }

-- none where the nodes are not those of a line, or there is none
abbrev pub assemble : List Awake → Option Line
assemble [] = None
assemble (a ∷ xs) = put_all (first_part a) xs
