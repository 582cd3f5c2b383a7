use Rattle.std.proofs.Common.{◌≡◌, length, sym, ◌∙◌, rules, tests}
use Rattle.std.proofs.lemmas.List.{length-map}
use Rattle.std.proofs.lemmas.Iterator.{YieldsList-from_zip, same_from_all}
use Rattle.directory.specs.Meaning.{row_means, rows_mean}
use Rattle.directory.proofs.Searches.{YieldsList-from_rows}
use Rattle.directory.proofs.ask.same_rows.Goals as goal

pub returns-then-rows-others : goal.returns-then-rows-others
returns-then-rows-others c =
    let rows = c.args.rows.now in
    let others = c.args.others.now in
    let long : length (rows_mean rows) ≡ length (rows_mean others) = length-map rows row_means ∙ search rules ∙ sym (length-map others row_means) in
    same_from_all c.all.new.self _ _ _ _ c.all.ensures.ran (YieldsList-from_zip (YieldsList-from_rows rows cc) (YieldsList-from_rows others cc)) long
    (λ x q k. search (rules, tests)) (λ x q k. search (rules, tests))
