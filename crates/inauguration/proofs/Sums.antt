-- The sums that the limits bound. Assumes nothing.
use Rattle.std.proofs.Common.{◌≡◌, ◌+◌, List, [], ◌∷◌, length, refl, sym, ap₂, ◌∙◌}
use Rattle.std.specs.List.{sum_by}
use Rattle.std.proofs.lemmas.List.Sums.{sum_by-cons}
use Rattle.report.specs.Masks.{together}
use Rattle.train.specs.Rules.{networks, set_bits, node_count, network_count, bit_count}
use Rattle.fitting.proofs.Wake.{asleep_masks, asleep_length}
use Rattle.inauguration.specs.declared.awake.Awake.{Awake}
use Rattle.inauguration.specs.Consists.{masks_of, line_of}

pub nodes_by : (cs : List Awake) → node_count (line_of cs) ≡ sum_by (λ c. length (masks_of c)) cs
nodes_by [] = refl
nodes_by (c ∷ cs) = ap₂ ◌+◌ (asleep_length (masks_of c)) (nodes_by cs) ∙ sym (sum_by-cons (λ c. length (masks_of c)) c cs)

pub networks_by : (cs : List Awake) → network_count (line_of cs) ≡ sum_by (λ c. length (networks (together (masks_of c)))) cs
networks_by [] = refl
networks_by (c ∷ cs) =
    ap₂ (λ ms n. length (networks (together ms)) + n) (asleep_masks (masks_of c)) (networks_by cs) ∙ sym (sum_by-cons (λ c. length (networks (together (masks_of c)))) c cs)

pub bits_by : (cs : List Awake) → bit_count (line_of cs) ≡ sum_by (λ c. set_bits (masks_of c)) cs
bits_by [] = refl
bits_by (c ∷ cs) = ap₂ (λ ms n. set_bits ms + n) (asleep_masks (masks_of c)) (bits_by cs) ∙ sym (sum_by-cons (λ c. set_bits (masks_of c)) c cs)
