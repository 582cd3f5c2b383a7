use Rattle.std.proofs.Common.{◌≡◌, true, ◌&&◌, leb, take, ap, ◌∙◌, arith}
use Rattle.std.proofs.lemmas.Bool.{and_from, le-leb}
use Rattle.report.specs.Reports.{means, filled, is_report}
use Rattle.report.specs.Reading.{masks_in, report_in}
use Rattle.report.proofs.Masks.{few_masks, take_padded, filled_padded}
use Rattle.report.proofs.Lossless.{read_is_written, masks_counted}
use Rattle.report.proofs.read.report_in.Goals as goal

pub returns : goal.returns
returns c =
    let ws = c.args.words.now in
    let none = c.requires in
    let counted = masks_counted ws none in
    let few = few_masks ws in
    let n = c.nodes_in.ensures ∙ counted.0 in
    let ms = c.masks_in.ensures in
    let mac = c.mac_in.ensures in
    let side1 = c.mac_in-2.ensures in
    let side2 = c.mac_in-3.ensures in
    let uuid = c.uuid_in.ensures in
    let position = c.position_in.ensures in
    let masks : take c.nodes_in.result c.masks_in.result ≡ masks_in ws = (λ i. take (n i) (ms i)) ∙ take_padded (masks_in ws) few in
    let is : means (record {
      mac = c.mac_in.result;
      side1 = c.mac_in-2.result;
      side2 = c.mac_in-3.result;
      uuid = c.uuid_in.result;
      position = c.position_in.result;
      nodes = c.nodes_in.result;
      masks = c.masks_in.result;
    }) ≡ report_in ws =
    (λ i. record { mac = mac i; side1 = side1 i; side2 = side2 i; uuid = uuid i; position = position i; masks = masks i })
    in
    let full : filled c.nodes_in.result c.masks_in.result ≡ true = (λ i. filled (n i) (ms i)) ∙ filled_padded (masks_in ws) few ∙ counted.1 in
    record {
      value = is;
      ranges =
          and_from (leb c.nodes_in.result 4 && filled c.nodes_in.result c.masks_in.result) _
          (and_from (leb c.nodes_in.result 4) (filled c.nodes_in.result c.masks_in.result) (le-leb c.nodes_in.result 4 (omega arith)) full)
          (ap is_report is ∙ (read_is_written ws none).0);
    }
