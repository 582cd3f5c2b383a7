use Rattle.std.proofs.Common.{◌∙◌, rules, tests}
use Rattle.std.proofs.lemmas.Iterator.{YieldsList-from_slice}
use Rattle.std.proofs.lemmas.Iterator.Search.{any_from_yields_List}
use Rattle.report.specs.Reports.{whole}
use Rattle.node.proofs.Scans.{is_of, awake_any}
use Rattle.node.proofs.questions.is_awake.Goals as goal

pub returns : goal.returns
returns c =
    let u = whole c.args.uuid in
    let k = c.args.position in
    any_from_yields_List (is_of u k) _ _ _ c.any.ensures.ran (YieldsList-from_slice c.args.held.now cc) (λ x b q e. search (rules, tests)) ∙ awake_any u k c.args.held.now
