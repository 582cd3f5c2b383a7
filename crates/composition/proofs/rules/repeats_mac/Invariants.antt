use Rattle.std.proofs.Common.{◌≡◌, ◌++◌, map, take, drop}
use Rattle.std.specs.List.{flat_map}
use Rattle.composition.specs.Meaning.{node_means, described}
use Rattle.composition.specs.Faults.{macs_in, mac_row, repeats}
use Rattle.composition.proofs.rules.repeats_mac.Given as goal

abbrev pub invariant-loop-i : goal.invariant-loop-i
invariant-loop-i l =
    let seen = flat_map mac_row (described l.before) in
    repeats seen (macs_in (map node_means l.nodes))
    ≡ repeats (seen ++ macs_in (map node_means (take l.i l.nodes))) (macs_in (map node_means (drop l.i l.nodes)))
