use Rattle.std.proofs.Common.{◌≡◌, length, Err, refl, ap, ◌∙◌, rules}
use Rattle.std.proofs.lemmas.Result.{err_from_is_err_and}
use Rattle.directory.specs.Writing.{write_leaves}
use Rattle.runs.specs.Calls.{told, rows, directory_answer}
use Rattle.node.specs.Told.{directory_told}
use Rattle.hold_client.specs.Held.{no_hold, read_told}
use Rattle.hold_client.proofs.Returned.{no_plan, no_hold_left, as_before, read_free, read_busy}
use Rattle.hold_client.proofs.read.read_directory.Goals as goal

pub returns-in_err-hold : goal.returns-in_err-hold
returns-in_err-hold c =
    let d = c.in_err-hold.ensures no_plan in
    let out = c.args.out.now in
    let fault = err_from_is_err_and c.from_residual.result c.from_residual.ensures.1 in
    record {
      answer = ap (read_told directory_told) (fault.1 ∙ ap Err fault.2) ∙ read_busy _ _ d.left (λ s. told rows (directory_answer s.rows (length out))) (λ _. refl) no_hold d.answered;
      buffer = read_busy _ _ d.left (λ s. write_leaves s.rows out) (λ _. refl) out d.answered;
      node = (no_hold_left _ _ d.left d.answered).1;
    }

pub returns : goal.returns
returns c =
    let d = c.in_ok-hold.ensures no_plan in
    let e = c.directory-answer.ensures no_plan in
    let back = c.give_back.ensures no_plan in
    let out = c.args.out.now in
    let said : read_told directory_told c.map_err.result ≡ directory_told c.directory-answer.result = search rules in
    record {
      answer = said ∙ e.answered ∙ read_free _ _ d.left (λ s. told rows (directory_answer s.rows (length out))) (λ _. refl) no_hold _ d.answered;
      buffer = e.wrote ∙ read_free _ _ d.left (λ s. write_leaves s.rows out) (λ _. refl) out _ d.answered;
      node = as_before _ _ d.left _ _ d.answered back.left;
    }
