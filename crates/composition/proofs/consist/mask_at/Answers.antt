use Rattle.std.proofs.Common.{map, sym, ap, ◌∙◌, arith}
use Rattle.std.proofs.lemmas.List.{get_or-map, get_or_past, length-map}
use Rattle.composition.specs.Meaning.{node_means, masks_of}
use Rattle.composition.proofs.Steps.{no_node}
use Rattle.composition.proofs.consist.mask_at.Goals as goal

pub returns-then-i-nodes : goal.returns-then-i-nodes
returns-then-i-nodes c =
    let ns = c.args.nodes.now in
    let i = c.args.i in
    let long = length-map ns node_means in
    sym (get_or-map (λ n. n.mask) (map node_means ns) i (node_means no_node) 0 (omega arith) ∙ ap (λ n. n.mask) (get_or-map node_means ns i no_node (node_means no_node) (omega arith)))

pub returns-else-i-nodes : goal.returns-else-i-nodes
returns-else-i-nodes c =
    let ns = c.args.nodes.now in
    sym (get_or_past (masks_of ns) c.args.i 0 (omega (arith, length-map ns node_means, length-map (map node_means ns) (λ n. n.mask))))
