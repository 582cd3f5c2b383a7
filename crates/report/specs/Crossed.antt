-- Reports whose neighbours cannot be: of no place in a line. Assumes nothing.
use Rattle.std.specs.Prelude.{◌≡◌, ◌<◌, Bool, not, ◌&&◌, ◌||◌, ◌⊎◌, [], ◌==◌}
use Rattle.report.specs.Reports.{Report}
use Rattle.report.specs.Refusals.{Refusal}

abbrev pub crossed : Refusal
crossed = (3, [])

-- the own MAC is a neighbour, or one MAC is on both sides
abbrev pub Crossed : Report → Type 0
Crossed r = (r.side1 ≡ r.mac) ⊎ (r.side2 ≡ r.mac) ⊎ ((0 < r.side1) × (r.side2 ≡ r.side1))

abbrev pub is_crossed : Report → Bool
is_crossed r = r.side1 == r.mac || r.side2 == r.mac || (not (r.side1 == 0) && r.side2 == r.side1)
