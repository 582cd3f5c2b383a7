use Rattle.std.proofs.Common.{◌+◌, ◌<◌, map, reverse, length, get_or, sym, ap, ◌∙◌, arith}
use Rattle.report.specs.Reports.{whole}
use Rattle.train.specs.Line.{Coupled}
use Rattle.train.specs.Rows.{counted}
use Rattle.directory.specs.Meaning.{way_means}
use Rattle.directory.specs.declared.row.Way as way
use Rattle.composition.specs.declared.consist.Consist as consist
use Rattle.composition.specs.Meaning.{node_means, nodes_of}
use Rattle.composition.specs.Standing.{standing, nobody}
use Rattle.composition.proofs.Standing.{forward_at, turned_at}
use Rattle.composition.proofs.Steps.{no_node, few_nodes}
use Rattle.composition.proofs.consist.Consist.met.Goals as goal
use Rattle.composition.proofs.consist.Consist.met.Goals.{in-Forward, in-Turned}

abbrev stood : consist.Consist → way.Way → Coupled
stood c w = record { consist = record { uuid = whole c.uuid; nodes = map node_means (nodes_of c) }; way = way_means w }

pub overflow_cast-result : goal.overflow_cast-result
overflow_cast-result c =
    let few = few_nodes c.args.self.now in
    let long = ap length c.nodes-nodes.ensures in
    elim c.match-self.branch [ in-Forward w ↦ omega (arith, w.place-is) | in-Turned w ↦ omega (arith, w.place-is) ]

pub overflow_add-result : goal.overflow_add-result
overflow_add-result c =
    let few = few_nodes c.args.self.now in
    let long = ap length c.nodes-nodes.ensures in
    elim c.match-self.branch [ in-Forward w ↦ omega (arith, w.place-is) | in-Turned w ↦ omega (arith, w.place-is) ]

pub returns : goal.returns
returns c =
    let ns = c.nodes-nodes.result.now in
    let self = c.args.self.now in
    let k = c.args.step in
    let are = c.nodes-nodes.ensures in
    let inside : k < length ns = omega (arith, ap length are) in
    elim c.match-self.branch [
      | in-Forward w ↦
          (λ i. (w.place-is i + 1, node_means (get_or ns (w.place-is i) no_node))) ∙ forward_at ns k inside
          ∙ ap (λ xs. get_or (counted 1 (map node_means xs)) k nobody) are ∙ ap (λ way. get_or (standing (stood self way)) k nobody) (sym w.in-Forward.is)
      | in-Turned w ↦
          (λ i. (w.place-is i + 1, node_means (get_or ns (w.place-is i) no_node))) ∙ turned_at ns k inside
          ∙ ap (λ xs. get_or (reverse (counted 1 (map node_means xs))) k nobody) are ∙ ap (λ way. get_or (standing (stood self way)) k nobody) (sym w.in-Turned.is)
    ]
