use Rattle.std.proofs.Common.{◌≡◌, Err, refl, ap, ◌∙◌, rules}
use Rattle.std.proofs.lemmas.Result.{err_from_is_err_and}
use Rattle.runs.specs.Calls.{status_reply}
use Rattle.node.specs.Told.{status_told}
use Rattle.hold_client.specs.Held.{no_hold, read_told}
use Rattle.hold_client.proofs.Returned.{no_plan, no_hold_left, as_before, read_free, read_busy}
use Rattle.hold_client.proofs.status.read_status.Goals as goal

pub returns-in_err-hold : goal.returns-in_err-hold
returns-in_err-hold c =
    let d = c.in_err-hold.ensures no_plan in
    let fault = err_from_is_err_and c.from_residual.result c.from_residual.ensures.1 in
    record {
      answer = ap (read_told status_told) (fault.1 ∙ ap Err fault.2) ∙ read_busy _ _ d.left (λ s. status_reply s c.args.number) (λ _. refl) no_hold d.answered;
      node = (no_hold_left _ _ d.left d.answered).1;
    }

pub returns : goal.returns
returns c =
    let d = c.in_ok-hold.ensures no_plan in
    let e = c.status-answer.ensures no_plan in
    let back = c.give_back.ensures no_plan in
    let said : read_told status_told c.map_err.result ≡ status_told c.status-answer.result = search rules in
    record {
      answer = said ∙ e.answered ∙ read_free _ _ d.left (λ s. status_reply s c.args.number) (λ _. refl) no_hold _ d.answered;
      node = as_before _ _ d.left _ _ d.answered back.left;
    }
