use Rattle.std.proofs.Common.{◌≡◌, Err, take, rules, sym, ap, ◌∙◌, subst}
use Rattle.std.specs.Option.{option_map}
use Rattle.fitting.specs.Neighbours.{IsLoose}
use Rattle.fitting.specs.Answer.{split, answer}
use Rattle.fitting.proofs.Loose.{one_loose}
use Rattle.inauguration.specs.Meaning.{all_mean, nodes_mean}
use Rattle.inauguration.specs.Answered.{answered}
use Rattle.inauguration.proofs.Answers.{was_some, was_none, says_mute, says_loose, says_split, says_chain, clamped}
use Rattle.inauguration.proofs.call.decide.Goals as goal

pub returns-then-not-is_held-clause-answer : goal.returns-then-not-is_held-clause-answer
returns-then-not-is_held-clause-answer c =
    says_mute c.args.own.0 (all_mean (take c.min.result c.args.held.now)) c.if-not-is_held.ensures ∙ ap (answer c.args.own.0) (clamped c.args.held.now c.min.result c.min.ensures)

pub returns-in-Some-clause-answer : goal.returns-in-Some-clause-answer
returns-in-Some-clause-answer c =
    says_loose c.args.own.0 (all_mean (take c.min.result c.args.held.now)) c.if-not-is_held.ensures c.in-Some.mac.0 c.in-Some.ensures
    ∙ ap (answer c.args.own.0) (clamped c.args.held.now c.min.result c.min.ensures)

pub returns-in-Some-clause-loose : goal.returns-in-Some-clause-loose
returns-in-Some-clause-loose c =
    subst (λ hs. IsLoose hs c.in-Some.mac.0) (clamped c.args.held.now c.min.result c.min.ensures) (one_loose _ c.in-Some.mac.0 (sym c.in-Some.ensures))

pub returns-in_err-chain-clause-answer : goal.returns-in_err-chain-clause-answer
returns-in_err-chain-clause-answer c =
    let none = was_none _ _ _ c.in_err-chain.ensures.value in
    let e : answered c.from_residual.result ≡ Err split = search rules in
    e ∙ says_split c.args.own.0 (all_mean (take c.min.result c.args.held.now)) c.if-not-is_held.ensures c.in_default.ensures
    (ap (option_map (λ v. nodes_mean v.items)) (sym none) ∙ c.find_chain.ensures) ∙ ap (answer c.args.own.0) (clamped c.args.held.now c.min.result c.min.ensures)

pub returns-clause-answer : goal.returns-clause-answer
returns-clause-answer c =
    let some = was_some _ _ _ c.in_ok-chain.ensures.value in
    c.from_chain.ensures ∙ says_chain c.args.own.0 (all_mean (take c.min.result c.args.held.now)) c.if-not-is_held.ensures c.in_default.ensures _
    (ap (option_map (λ v. nodes_mean v.items)) (sym some) ∙ c.find_chain.ensures) ∙ ap (answer c.args.own.0) (clamped c.args.held.now c.min.result c.min.ensures)
