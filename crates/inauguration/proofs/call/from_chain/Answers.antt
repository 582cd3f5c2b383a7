use Rattle.std.proofs.Common.{cond, Ok, Err, sym, ap, ◌∙◌}
use Rattle.std.specs.Option.{option_map}
use Rattle.train.specs.Agreement.{skeleton}
use Rattle.fitting.specs.Answer.{shown_rows, long}
use Rattle.inauguration.specs.Consists.{line_of}
use Rattle.inauguration.proofs.Answers.{was_some, line_same}
use Rattle.inauguration.proofs.call.from_chain.Goals as goal

pub returns-then-not-is_within : goal.returns-then-not-is_within
returns-then-not-is_within c =
    let k = line_of c.in_ok-consists.consists.items in
    let some = was_some _ _ _ c.in_ok-consists.ensures.value in
    ap (λ b. cond b (Ok (shown_rows k)) (Err long)) c.if-not-is_within.ensures ∙ line_same k _ (ap (option_map (λ v. skeleton (line_of v.items))) (sym some) ∙ c.gather.ensures)

pub returns : goal.returns
returns c =
    let k = line_of c.in_ok-consists.consists.items in
    let some = was_some _ _ _ c.in_ok-consists.ensures.value in
    ap Ok c.directory_of.ensures ∙ ap (λ b. cond b (Ok (shown_rows k)) (Err long)) c.if-not-is_within.ensures
    ∙ line_same k _ (ap (option_map (λ v. skeleton (line_of v.items))) (sym some) ∙ c.gather.ensures)
