use Rattle.std.proofs.Common.{◌≤◌, map, length, ap, ◌∙◌, arith}
use Rattle.std.proofs.lemmas.List.{length-map}
use Rattle.report.specs.Masks.{together}
use Rattle.report.proofs.Masks.{together_padded}
use Rattle.composition.specs.Meaning.{node_means, masks_of, nodes_of}
use Rattle.composition.proofs.Steps.{few_nodes}
use Rattle.composition.proofs.consist.Consist.served.Goals as goal

pub returns : goal.returns
returns c =
    let ns = nodes_of c.args.self.now in
    let ms = masks_of ns in
    let few : length ms ≤ 4 = omega (arith, few_nodes c.args.self.now, length-map ns node_means, length-map (map node_means ns) (λ n. n.mask)) in
    c.together.ensures ∙ ap together c.masks.ensures ∙ together_padded ms few
