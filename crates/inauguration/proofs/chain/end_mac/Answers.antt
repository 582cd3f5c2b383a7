use Rattle.std.proofs.Common.{◌≡◌, ◌||◌, eqb, rules, ap, ◌∙◌}
use borrow.Author.Tests.{tests}
use Rattle.std.specs.List.{find}
use Rattle.std.specs.Option.{option_map, unwrap_or}
use Rattle.std.proofs.lemmas.Iterator.{YieldsList-from_slice}
use Rattle.std.proofs.lemmas.Iterator.Search.{find_from_yields_List}
use Rattle.inauguration.proofs.Scans.{first_end}
use Rattle.inauguration.proofs.chain.end_mac.Goals as goal

pub returns : goal.returns
returns c =
    let e = find_from_yields_List (λ r. eqb r.side1.0 0 || eqb r.side2.0 0) _ _ c.find.result c.find.ensures.ran (YieldsList-from_slice c.args.held.now cc) (λ x b q k. search (rules, tests)) in
    let f : option_map (λ m. m.0) c.map.result ≡ option_map (λ r. r.mac.0) (find (λ r. eqb r.side1.0 0 || eqb r.side2.0 0) c.args.held.now) = search rules in
    ap (λ o. unwrap_or o 0) f ∙ first_end c.args.held.now
