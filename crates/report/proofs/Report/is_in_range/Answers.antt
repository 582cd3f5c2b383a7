use Rattle.std.proofs.Common.{◌≡◌, true, length, take, ap, ◌∙◌, arith}
use Rattle.std.proofs.lemmas.List.{length-take}
use Rattle.std.proofs.lemmas.Bool.Decides.{nat_tests}
use Rattle.report.specs.Masks.{unbroken}
use Rattle.report.specs.Reports.{filled}
use Rattle.report.proofs.Masks.{filled_masks}
use Rattle.report.proofs.Report.is_in_range.Goals as goal

pub returns-then-self-nodes : goal.returns-then-self-nodes
returns-then-self-nodes c =
    let r = c.args.self.now in
    let told = c.if-not-is_filled.ensures in
    let filled_so : filled r.nodes r.masks ≡ true = cc in
    let kept = filled_masks r.nodes r.masks (omega arith) filled_so in
    let long : length (take r.nodes r.masks) ≡ r.nodes = length-take r.nodes r.masks ∙ omega arith in
    let same = ap unbroken kept.1 in
    grind (arith, nat_tests)
