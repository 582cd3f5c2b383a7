-- A line: two consists, the second turned, a sleeping node in each; and its rows. Assumes nothing.
use Rattle.std.proofs.Common.{◌≡◌, [], ◌∷◌, Some, None, refl, arith}
use Rattle.report.specs.Masks.{unbroken}
use Rattle.train.specs.Line.{forward, turned, Consist, Line}
use Rattle.train.specs.Rules.{IsConsist, IsLine, Within}
use Rattle.train.specs.Rows.{rows}

abbrev first : Consist
first = record { uuid = 9; nodes = record { mask = 1; mac = Some 40 } ∷ record { mask = 3; mac = None } ∷ record { mask = 4; mac = Some 41 } ∷ [] }

abbrev second : Consist
second = record { uuid = 5; nodes = record { mask = 1; mac = None } ∷ record { mask = 2; mac = Some 30 } ∷ [] }

abbrev pub two : Line
two = record { consist = first; way = forward } ∷ record { consist = second; way = turned } ∷ []

first_is : IsConsist first
unfolding unbroken
first_is = record { named = omega arith; some_node = omega arith; few_nodes = omega arith; some_network = omega arith; no_gap = refl }

second_is : IsConsist second
unfolding unbroken
second_is = record { named = omega arith; some_node = omega arith; few_nodes = omega arith; some_network = omega arith; no_gap = refl }

pub is_line : IsLine two
is_line = record {
  some_consist = omega arith;
  consists = (first_is, (second_is, tt));
  some_awake = (omega arith, (omega arith, tt));
  own_uuids = ((λ e. omega arith, tt), (tt, tt));
  real_macs = omega arith;
  own_macs = ((λ e. omega arith, (λ e. omega arith, tt)), ((λ e. omega arith, tt), (tt, tt)));
}

pub some_line : (l : Line) × IsLine l × Within l
some_line = (two, is_line, record { nodes = omega arith; networked = omega arith; bits = omega arith })

-- read from its right end, where the smaller UUID is: there the turned consist is forward, and the other turned
in_rows : rows two ≡
    record { uuid = 5; cn = 1; subnet = 1; node = 1; way = forward } ∷ record { uuid = 5; cn = 2; subnet = 2; node = 2; way = forward }
    ∷ record { uuid = 9; cn = 3; subnet = 3; node = 3; way = turned } ∷ record { uuid = 9; cn = 1; subnet = 4; node = 4; way = turned }
    ∷ record { uuid = 9; cn = 2; subnet = 5; node = 4; way = turned } ∷ record { uuid = 9; cn = 1; subnet = 4; node = 5; way = turned } ∷ []
in_rows = refl
