use Rattle.std.proofs.Common.{◌≡◌, [], map, take, drop}
use Rattle.std.specs.List.{flat_map}
use Rattle.composition.specs.Meaning.{described}
use Rattle.composition.specs.Faults.{twice_at, uuid_row}
use Rattle.composition.proofs.rules.check_uuids.Given as goal

abbrev pub invariant-loop-place : goal.invariant-loop-place
invariant-loop-place l =
    twice_at 0 [] (map uuid_row (described l.consists))
    ≡ twice_at l.place (flat_map uuid_row (described (take l.place l.consists))) (map uuid_row (described (drop l.place l.consists)))
