use Rattle.std.proofs.Common.{eqb, rules, ◌∙◌}
use borrow.Author.Tests.{tests}
use Rattle.std.proofs.lemmas.Iterator.{YieldsList-from_slice}
use Rattle.std.proofs.lemmas.Iterator.Adapters.{position_from-zero}
use Rattle.std.proofs.lemmas.Iterator.Search.{position_from_yields_List}
use Rattle.inauguration.proofs.Scans.{placed}
use Rattle.inauguration.proofs.neighbours.place_of.Goals as goal

pub returns-clause-place : goal.returns-clause-place
returns-clause-place c =
    position_from_yields_List (λ r. eqb r.mac.0 c.args.mac.0) _ _ c.position.result c.position.ensures.ran (YieldsList-from_slice c.args.held.now cc) (λ x b q k. search (rules, tests))
    ∙ position_from-zero (λ r. eqb r.mac.0 c.args.mac.0) c.args.held.now ∙ placed c.args.mac.0 0 c.args.held.now
