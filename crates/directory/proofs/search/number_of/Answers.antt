use Rattle.std.proofs.Common.{◌≡◌, ◌==◌, ◌&&◌, ap, option_map, ◌∙◌, rules, tests}
use Rattle.std.proofs.lemmas.Iterator.{YieldsList-from_slice}
use Rattle.std.proofs.lemmas.Iterator.Search.{find_from_yields_List}
use Rattle.report.specs.Reports.{whole}
use Rattle.directory.specs.Meaning.{row_means, rows_mean}
use Rattle.directory.specs.Asked.{position_in}
use Rattle.directory.proofs.Searches.{number_meant}
use Rattle.directory.proofs.search.number_of.Goals as goal

pub returns : goal.returns
returns c =
    let u = whole c.args.uuid in
    let rows = c.args.rows.now in
    let found = find_from_yields_List (λ r. whole r.uuid == u && position_in (rows_mean rows) (row_means r) == c.args.position) _ _ _ c.find.ensures.ran (YieldsList-from_slice rows cc) (λ x b q k. search (rules, tests)) in
    let first : c.map.result ≡ option_map (λ r. r.node) (option_map (λ y. y.now) c.find.result) = search (rules, tests) in
    first ∙ ap (option_map (λ r. r.node)) found ∙ number_meant u c.args.position rows
