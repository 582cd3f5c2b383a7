use Rattle.std.proofs.Common.{◌+◌, get_or, sym, ◌∙◌, arith}
use Rattle.std.proofs.lemmas.Bool.{ne_eqb}
use Rattle.report.proofs.Table.{mask_at, end_at, past_at}
use Rattle.report.proofs.read.is_right.Goals as goal

pub returns-then-place-end : goal.returns-then-place-end
returns-then-place-end c =
    let ws = c.args.words.now in
    c.is_mask_word.ensures ∙ sym (mask_at ws c.args.place (get_or ws c.args.place 0) (omega arith) (omega arith))

pub returns-then-place-end-2 : goal.returns-then-place-end-2
returns-then-place-end-2 c =
    let ws = c.args.words.now in
    c.is_end_word.ensures ∙ sym (end_at ws c.args.place (get_or ws c.args.place 0) (omega arith))

pub returns-else-place-end-2 : goal.returns-else-place-end-2
returns-else-place-end-2 c =
    let ws = c.args.words.now in
    ne_eqb c.args.place (12 + c.from-end.result) c.if-place-end-2.false ∙ sym (past_at ws c.args.place (get_or ws c.args.place 0) (omega arith))
