use Rattle.std.proofs.Common.{◌≡◌, ◌+◌, ◌-◌, ◌^◌, min, drop}
use Rattle.train.specs.Rules.{node_count, network_count, bit_count}
use Rattle.composition.specs.Meaning.{described}
use Rattle.composition.proofs.rules.check_limits.Given as goal

abbrev pub invariant-loop-consist : goal.invariant-loop-consist
invariant-loop-consist l =
    let rest = described (drop l.consist-index l.consists) in
    let all = described l.consists in
    (min (l.nodes + node_count rest) (2 ^ 64 - 1) ≡ min (node_count all) (2 ^ 64 - 1))
    × (min (l.networks + network_count rest) (2 ^ 32 - 1) ≡ min (network_count all) (2 ^ 32 - 1))
    × (min (l.bits + bit_count rest) (2 ^ 32 - 1) ≡ min (bit_count all) (2 ^ 32 - 1))
