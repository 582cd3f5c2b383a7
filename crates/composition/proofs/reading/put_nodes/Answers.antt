use Rattle.std.proofs.Common.{◌+◌, ◌<◌, ◌≤◌, [], ◌∷◌, ◌++◌, map, length, drop, sym, ap, ◌∙◌, arith}
use Rattle.std.proofs.lemmas.List.{at_drop_more, at_drop_all, append_assoc, append-nil, length-map, map-append}
use Rattle.directory.specs.declared.row.MetNode.{MetNode}
use Rattle.directory.specs.Meaning.{met_means}
use Rattle.composition.specs.Meaning.{node_means, nodes_of, consist_means}
use Rattle.composition.specs.Standing.{standing, nobody}
use Rattle.composition.specs.Gathering.{as_met, nodes_mean}
use Rattle.composition.proofs.Standing.{length_standing}
use Rattle.composition.proofs.reading.put_nodes.Goals as goal

pub loop-step-preserved : goal.loop-step-preserved
loop-step-preserved c =
    let consist = c.args.consist.now in
    let s = consist_means consist in
    let k = c.loop-step.step in
    let before = c.loop-step.nodes.items in
    let inside : k < length (standing s) = omega (arith, length_standing s, length-map (nodes_of consist) node_means, ap length c.nodes-step-end.ensures) in
    let v : MetNode = record { uuid = consist.uuid; mask = c.met.result.node.mask; way = consist.way } in
    let rest = map (as_met s) (drop (k + 1) (standing s)) in (
      ap (λ xs. nodes_mean xs ++ rest) c.push.ensures.items
          ∙ ap (λ xs. xs ++ rest) (map-append met_means before (v ∷ [])) ∙ append_assoc (nodes_mean before) (met_means v ∷ []) rest
          ∙ ap (λ x. nodes_mean before ++ as_met s x ∷ rest) c.met.ensures
          ∙ ap (λ xs. nodes_mean before ++ xs) (sym (at_drop_more (λ xs. map (as_met s) xs) (standing s) k nobody inside)) ∙ c.loop-step.invariant.0,
      omega (arith, c.push.ensures.len, c.loop-step.invariant.1),
    )

pub returns-clause-met : goal.returns-clause-met
returns-clause-met c =
    let consist = c.args.consist.now in
    let s = consist_means consist in
    let k = c.loop-step.step in
    let past : length (standing s) ≤ k = omega (arith, length_standing s, length-map (nodes_of consist) node_means, ap length c.nodes-step-end.ensures) in
    sym (append-nil (nodes_mean c.loop-step.nodes.items))
    ∙ ap (λ xs. nodes_mean c.loop-step.nodes.items ++ xs) (sym (at_drop_all (λ xs. map (as_met s) xs) (standing s) k past)) ∙ c.loop-step.invariant.0
