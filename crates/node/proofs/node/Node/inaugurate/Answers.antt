use Rattle.std.proofs.Common.{Err, sym, ap, ◌∙◌, subst}
use Rattle.std.proofs.lemmas.Result.{err_from_is_err_and}
use Rattle.directory.specs.Meaning.{rows_of}
use Rattle.fitting.specs.Answer.{answer}
use Rattle.inauguration.specs.Answered.{NamesLoose}
use Rattle.runs.specs.Calls.{event, inaugurate, counter, Step}
use Rattle.node.specs.Seen.{seen}
use Rattle.node.specs.Told.{inauguration_told}
use Rattle.node.proofs.Inaugurations.{looked, by_fault, by_hold, accepted}
use Rattle.node.proofs.node.Node.inaugurate.Goals as goal

pub returns-in_err-found : goal.returns-in_err-found
returns-in_err-found c plan =
    let n = c.args.self.now in
    let same = looked n _ c.records.ensures in
    let f = c.in_err-found.field-0.0 in
    let e = c.in_err-found.ensures.answer ∙ ap (answer n.mac.0) same in
    let told = err_from_is_err_and c.from_residual.result c.from_residual.ensures.1 in
    subst (λ r. Step plan (seen n) (event inaugurate (inauguration_told r) _ _) (seen n)) (sym (told.1 ∙ ap Err told.2))
    (by_fault n f (sym e) (subst (λ hs. NamesLoose hs (Err f)) same c.in_err-found.ensures.loose))

pub returns-then-is_barred : goal.returns-then-is_barred
returns-then-is_barred c _ =
    let n = c.args.self.now in
    let e = c.in_ok-found.ensures.answer ∙ ap (answer n.mac.0) (looked n _ c.records.ensures) in
    by_hold n (rows_of c.in_ok-found.found) (sym e) c.if-is_barred.ensures

pub returns : goal.returns
returns c plan =
    let n = c.args.self.now in
    let e = c.in_ok-found.ensures.answer ∙ ap (answer n.mac.0) (looked n _ c.records.ensures) in
    subst (λ v. Step plan (seen n) (event inaugurate (counter v) _ _) (seen c.enforce.new.self)) (sym c.enforce.ensures.answer)
    (accepted n (rows_of c.in_ok-found.found) (sym e) _ c.if-is_barred.ensures c.enforce.ensures.left)
