use Rattle.std.proofs.Common.{rules, ◌≡◌, List, ℕ, subst, sym, lit<}
use Rattle.std.proofs.lemmas.Iterator.Splits.{YieldsList-from_str_split}
use Rattle.scenario.specs.Numbers.{AreFour, address_of}
use Rattle.scenario.proofs.FirstItems.{four}
use Rattle.scenario.proofs.number.dotted.Goals as goal

pub returns-in-Ok-Ok-Ok-Ok : goal.returns-in-Ok-Ok-Ok-Ok
returns-in-Ok-Ok-Ok-Ok c =
    let begun = c.split-parts.ensures in
    let given = c.in-Some-Some-Some-Some-None in
    let parts = four (YieldsList-from_str_split 46 c.args.token.now (lit< tt) begun.text begun.has_more begun.pattern)
    c.next.ensures.steps given.is-0 c.next-2.ensures.steps given.is-1 c.next-3.ensures.steps given.is-2 c.next-4.ensures.steps given.is-3
    c.next-5.ensures.steps given.is-4 in
    subst (λ (ps : List (List ℕ)). AreFour ps × (c.from_be_bytes.result ≡ address_of ps)) (sym parts) (search rules)
