use Rattle.std.proofs.Common.{sym, ap, ◌∙◌}
use Rattle.std.proofs.lemmas.List.{at_drop_all}
use Rattle.composition.specs.Meaning.{described}
use Rattle.composition.specs.Faults.{told, consists_fault}
use Rattle.composition.proofs.Steps.{consist_good, consist_bad}
use Rattle.composition.proofs.rules.check_consists.Goals as goal

pub returns-in-Err : goal.returns-in-Err
returns-in-Err c =
    let k = c.loop-place.place in
    let cs = c.args.consists.now in
    sym (ap told (c.loop-place.invariant ∙ consist_bad cs k c.loop-place-test.true c.in-Err.rule c.in-Err.ensures))

pub loop-place-preserved : goal.loop-place-preserved
loop-place-preserved c =
    let k = c.loop-place.place in
    let cs = c.args.consists.now in
    c.loop-place.invariant ∙ consist_good cs k c.loop-place-test.true c.in_default.ensures

pub returns : goal.returns
returns c =
    let k = c.loop-place.place in
    sym (ap told (c.loop-place.invariant ∙ at_drop_all (λ xs. consists_fault k (described xs)) c.args.consists.now k c.loop-place-test.false))
