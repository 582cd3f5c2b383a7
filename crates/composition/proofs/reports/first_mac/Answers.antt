use Rattle.std.proofs.Common.{◌+◌, get_or, drop, sym, ap, ◌∙◌}
use Rattle.std.proofs.lemmas.List.{at_drop_more, at_drop_all}
use Rattle.train.specs.Truth.{awake_of, awake, first_mac}
use Rattle.composition.specs.Meaning.{consist_means, described}
use Rattle.composition.specs.Standing.{first_awake}
use Rattle.composition.proofs.Standing.{standing_awake, first_found, none_found}
use Rattle.composition.proofs.Steps.{no_consist}
use Rattle.composition.proofs.reports.first_mac.Goals as goal

pub returns-in-Some : goal.returns-in-Some
returns-in-Some c =
    let k = c.loop-consist.consist-index in
    let cs = c.args.consists.now in
    let s = consist_means (get_or cs k no_consist) in
    let rest = awake (described (drop (k + 1) cs)) in
    first_found (awake_of s) rest c.in-Some.mac.0 (c.in-Some.ensures ∙ ap first_awake (standing_awake s))
    ∙ sym (ap first_mac (c.loop-consist.invariant ∙ at_drop_more (λ xs. awake (described xs)) cs k no_consist c.loop-consist-test.true))

pub loop-consist-preserved : goal.loop-consist-preserved
loop-consist-preserved c =
    let k = c.loop-consist.consist-index in
    let cs = c.args.consists.now in
    let s = consist_means (get_or cs k no_consist) in
    c.loop-consist.invariant ∙ at_drop_more (λ xs. awake (described xs)) cs k no_consist c.loop-consist-test.true
    ∙ none_found (awake_of s) (awake (described (drop (k + 1) cs))) (c.in_default.ensures ∙ ap first_awake (standing_awake s))

pub returns : goal.returns
returns c =
    let k = c.loop-consist.consist-index in
    sym (ap first_mac (c.loop-consist.invariant ∙ at_drop_all (λ xs. awake (described xs)) c.args.consists.now k c.loop-consist-test.false))
