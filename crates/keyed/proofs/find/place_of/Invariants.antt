use Rattle.std.proofs.Common.{◌≡◌, drop}
use Rattle.keyed.specs.Find.{place_of}
use Rattle.keyed.proofs.Found.{later_by}
use Rattle.keyed.proofs.find.place_of.Given as goal

abbrev pub invariant-loop-i : goal.invariant-loop-i
invariant-loop-i g l =
    place_of g.R.Key.Key.order g.R.Record.under l.key l.records ≡ later_by l.i (place_of g.R.Key.Key.order g.R.Record.under l.key (drop l.i l.records))
