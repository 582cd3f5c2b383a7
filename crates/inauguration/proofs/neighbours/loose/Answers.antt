use Rattle.std.proofs.Common.{not, rules, ◌∙◌}
use borrow.Author.Tests.{tests}
use Rattle.std.proofs.lemmas.Iterator.{YieldsList-from_slice}
use Rattle.std.proofs.lemmas.Iterator.Search.{find_from_yields_List}
use Rattle.report.specs.Reports.{means}
use Rattle.fitting.specs.Neighbours.{is_firm}
use Rattle.inauguration.specs.Meaning.{all_mean}
use Rattle.inauguration.proofs.Scans.{first_loose}
use Rattle.inauguration.proofs.neighbours.loose.Goals as goal

pub returns : goal.returns
returns c =
    let e = find_from_yields_List (λ r. not (is_firm (all_mean c.args.held.now) (means r))) _ _ c.find.result c.find.ensures.ran (YieldsList-from_slice c.args.held.now cc) (λ x b q k. search (rules, tests)) in
    search rules ∙ first_loose (all_mean c.args.held.now) c.args.held.now
