-- The first rule that a line breaks, in the order in which the rules are looked at. Assumes nothing.
use Rattle.std.specs.Prelude.{ℕ, ◌+◌, Bool, true, false, not, ◌&&◌, ◌||◌, List, [], ◌∷◌, ◌++◌, map, length, Some, None, Ok, Err, Option, Result, ◌==◌, nat_le}
use Rattle.std.specs.Option.{option_map}
use Rattle.report.specs.Masks.{is_mask, gapless}
use Rattle.report.specs.Reports.{is_mac, is_uuid}
use Rattle.train.specs.Line.{Node, Consist, masks, Coupled, Line}
use Rattle.train.specs.Rules.{node_count, network_count, bit_count}
use Rattle.composition.specs.declared.fault.ConsistRule.{ConsistRule}
use Rattle.composition.specs.declared.fault.ConsistRule.TheVariants.{NoUuid, NodeCount, NoNetwork, Gap, NoneAwake, WrongMac}
use Rattle.composition.specs.declared.fault.ConsistFault.{ConsistFault}
use Rattle.composition.specs.declared.fault.LineFault.{LineFault}
use Rattle.composition.specs.declared.fault.LineFault.TheVariants.{NoConsist, InConsist, UuidTwice, MacTwice, Nodes, Networks, Bits}

-- what a check answers: the first fault, if there is one
abbrev pub told : {F : Type 0} → Option F → Result (Unit {0}) F
told None = Ok tt
told (Some f) = Err f

-- the first fault, else the second
abbrev pub or_else : {F : Type 0} → Option F → Option F → Option F
or_else (Some f) o = Some f
or_else None o = o

-- a rule that breaks where its test fails
abbrev pub unless : {F : Type 0} → Bool → F → Option F
unless true f = None
unless false f = Some f

-- the first of nodes, from position p on, with a mask of 0
abbrev pub mask_fault : ℕ → List Node → Option ConsistRule
mask_fault p [] = None
mask_fault p (n ∷ ns) = or_else (unless (is_mask n.mask) (NoNetwork p)) (mask_fault (p + 1) ns)

abbrev pub mac_then : Option ℕ → List ℕ → List ℕ
mac_then (Some m) ms = m ∷ ms
mac_then None ms = ms

-- the MACs of the awake ones of nodes
abbrev pub macs_in : List Node → List ℕ
macs_in [] = []
macs_in (n ∷ ns) = mac_then n.mac (macs_in ns)

abbrev pub mac_fits : Option ℕ → Bool
mac_fits (Some m) = is_mac m
mac_fits None = true

-- the first of nodes, from position p on, with a MAC out of range
abbrev pub mac_fault : ℕ → List Node → Option ConsistRule
mac_fault p [] = None
mac_fault p (n ∷ ns) = or_else (unless (mac_fits n.mac) (WrongMac p)) (mac_fault (p + 1) ns)

-- the first rule that a consist breaks
abbrev pub consist_fault : Consist → Option ConsistRule
consist_fault c =
    or_else (unless (is_uuid c.uuid) NoUuid)
    (or_else (unless (nat_le 1 (length c.nodes) && nat_le (length c.nodes) 4) NodeCount)
    (or_else (mask_fault 1 c.nodes)
    (or_else (unless (gapless (masks c)) Gap)
    (or_else (unless (nat_le 1 (length (macs_in c.nodes))) NoneAwake)
    (mac_fault 1 c.nodes)))))

-- the first fault of consists, from place k on
abbrev pub consists_fault : ℕ → Line → Option ConsistFault
consists_fault k [] = None
consists_fault k (s ∷ l) =
    or_else (option_map (λ f. record { place = k; rule = f }) (consist_fault s.consist)) (consists_fault (k + 1) l)

-- whether a number stands in a list
abbrev pub among : ℕ → List ℕ → Bool
among x [] = false
among x (y ∷ ys) = x == y || among x ys

-- whether one of the numbers xs stands before it, in `seen` or in xs
abbrev pub repeats : List ℕ → List ℕ → Bool
repeats seen [] = false
repeats seen (x ∷ xs) = among x seen || repeats (seen ++ x ∷ []) xs

-- the place, from k on, of the first row of numbers with one that stands before it
abbrev pub twice_at : ℕ → List ℕ → List (List ℕ) → Option ℕ
twice_at k seen [] = None
twice_at k seen (xs ∷ rest) = or_else (unless (not (repeats seen xs)) k) (twice_at (k + 1) (seen ++ xs) rest)

-- the first limit that is passed
abbrev pub limit_fault : Line → Option LineFault
limit_fault l =
    or_else (unless (nat_le (node_count l) 63) Nodes)
    (or_else (unless (nat_le (network_count l) 63) Networks) (unless (nat_le (bit_count l) 128) Bits))

-- the numbers of a consist that stand but once in a line: its UUID, and its MACs
abbrev pub uuid_row : Coupled → List ℕ
uuid_row s = s.consist.uuid ∷ []

abbrev pub mac_row : Coupled → List ℕ
mac_row s = macs_in s.consist.nodes

abbrev pub uuid_fault : Line → Option LineFault
uuid_fault l = option_map UuidTwice (twice_at 0 [] (map uuid_row l))

abbrev pub mac_twice_fault : Line → Option LineFault
mac_twice_fault l = option_map MacTwice (twice_at 0 [] (map mac_row l))

-- the first rule that a line breaks, limits included
abbrev pub line_fault : Line → Option LineFault
line_fault l =
    or_else (unless (nat_le 1 (length l)) NoConsist)
    (or_else (option_map InConsist (consists_fault 0 l)) (or_else (uuid_fault l) (or_else (mac_twice_fault l) (limit_fault l))))
