-- What an inauguration answers, holds aside: the rows of the fitting line, or the number of the first refusal. Assumes nothing.
use Rattle.std.specs.Prelude.{ℕ, Bool, cond, ◌&&◌, List, take, Some, None, Ok, Err, Option, Result, nat_le}
use Rattle.report.specs.Reports.{Report}
use Rattle.train.specs.Line.{Line}
use Rattle.train.specs.Truth.{Awake}
use Rattle.train.specs.Rules.{node_count, network_count, bit_count}
use Rattle.train.specs.Rows.{Row, rows_met, met, reading}
use Rattle.directory.specs.Meaning.{serving}
use Rattle.fitting.specs.Neighbours.{is_held, loose}
use Rattle.fitting.specs.Walk.{chain_of}
use Rattle.fitting.specs.Assemble.{assemble}

-- the numbers of the refusals
abbrev pub mute : ℕ
mute = 6

abbrev pub loosely : ℕ
loosely = 7

abbrev pub split : ℕ
split = 8

abbrev pub mixed : ℕ
mixed = 9

abbrev pub long : ℕ
long = 10

-- the three limits
abbrev pub is_within : Line → Bool
is_within l = nat_le (node_count l) 63 && nat_le (network_count l) 63 && nat_le (bit_count l) 128

-- the rows that a directory shows: of nodes that serve a network, the first 128; in a line within the limits, all
abbrev pub shown_rows : Line → List Row
shown_rows l = take 128 (rows_met (serving (met (reading l))))

-- by the line assembled: mixed where there is none, long where it passes a limit
abbrev pub line_answer : Option Line → Result (List Row) ℕ
line_answer None = Err mixed
line_answer (Some l) = cond (is_within l) (Ok (shown_rows l)) (Err long)

-- by the chain: split where there is none
abbrev pub chain_answer : Option (List Awake) → Result (List Row) ℕ
chain_answer None = Err split
chain_answer (Some xs) = line_answer (assemble xs)

-- by the MAC of a loose report, if there is one
abbrev pub firm_answer : List Report → Option ℕ → Result (List Row) ℕ
firm_answer held (Some m) = Err loosely
firm_answer held None = chain_answer (chain_of held)

-- to the node with the MAC own
abbrev pub answer : ℕ → List Report → Result (List Row) ℕ
answer own held = cond (is_held own held) (firm_answer held (loose held)) (Err mute)
