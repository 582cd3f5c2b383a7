use Rattle.std.proofs.Common.{◌≡◌, ◌==◌, ap, option_map, ◌∙◌, rules, tests}
use Rattle.std.proofs.lemmas.Iterator.{YieldsList-from_slice}
use Rattle.std.proofs.lemmas.Iterator.Search.{find_from_yields_List}
use Rattle.directory.specs.Keys.{place_told}
use Rattle.directory.proofs.Searches.{network_meant}
use Rattle.directory.proofs.search.network_of.Goals as goal

pub returns : goal.returns
returns c =
    let rows = c.args.rows.now in
    let found = find_from_yields_List (λ r. r.subnet == c.args.subnet) _ _ _ c.find.ensures.ran (YieldsList-from_slice rows cc) (λ x b q k. search (rules, tests)) in
    let first : c.map.result ≡ option_map (λ r. (r.uuid, r.network)) (option_map (λ y. y.now) c.find.result) = search (rules, tests) in
    ap place_told (first ∙ ap (option_map (λ r. (r.uuid, r.network))) found) ∙ network_meant c.args.subnet rows
