use Rattle.std.proofs.Common.{◌≡◌, ◌/◌, ◌%◌, ◌^◌, map, length, sym, ap, ◌∙◌, arith}
use Rattle.std.proofs.lemmas.List.{length-map}
use Rattle.report.specs.Reports.{whole}
use Rattle.composition.specs.Meaning.{node_means, masks_of, nodes_of}
use Rattle.composition.proofs.Steps.{few_nodes}
use Rattle.composition.proofs.reports.report_of.Goals as goal

pub overflow_cast-result : goal.overflow_cast-result
overflow_cast-result c = omega (arith, few_nodes c.args.consist.now, ap length c.nodes.ensures)

pub returns : goal.returns
returns c =
    let u = c.args.consist.now.uuid in
    let ns = nodes_of c.args.consist.now in
    let side1 = c.sides.ensures.side1 in
    let side2 = c.sides.ensures.side2 in
    let high : u.high ≡ whole u / 2 ^ 64 = omega arith in
    let low : u.low ≡ whole u % 2 ^ 64 = omega arith in
    let count : length c.nodes.result.now ≡ length (masks_of ns) = ap length c.nodes.ensures ∙ sym (length-map (map node_means ns) (λ n. n.mask) ∙ length-map ns node_means) in
    let masks = c.masks.ensures in
    (λ i. record {
      mac = c.args.mac;
      side1 = record { 0 = side1 i };
      side2 = record { 0 = side2 i };
      uuid = record { high = high i; low = low i };
      position = c.args.position;
      nodes = count i;
      masks = masks i;
    })
