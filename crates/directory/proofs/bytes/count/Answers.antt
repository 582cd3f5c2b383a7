use Rattle.std.proofs.Common.{◌-◌, get_or, take, sym, ap, ◌∙◌, arith}
use Rattle.std.proofs.lemmas.List.{take_all}
use Rattle.counter.specs.Crc.{all_ones, sent, remainder_after, reflected, register_after}
use Rattle.train.specs.Bytes.{row_bytes, rows_bytes}
use Rattle.directory.specs.Meaning.{blank, row_means, rows_mean}
use Rattle.directory.proofs.Octets.{rows_bytes_more}
use Rattle.directory.proofs.bytes.count.Goals as goal

pub loop-row-init : goal.loop-row-init
unfolding register_after remainder_after sent reflected
loop-row-init c = c.start-counter.ensures

pub loop-row-preserved : goal.loop-row-preserved
loop-row-preserved c =
    let i = c.loop-row.row-index in
    let rows = c.args.rows.now in
    let front = rows_bytes (rows_mean (take i rows)) in
    let next = row_bytes (row_means (get_or rows i blank)) in
    let more = rows_bytes_more rows i c.loop-row-test.true in
    let two = c.take.ensures.joins.two all_ones front next in
    c.take.ensures.after ∙ (λ j. register_after (c.loop-row.invariant j) (c.bytes.ensures j)) ∙ sym two ∙ ap (λ bs. register_after all_ones bs) (sym more)

pub returns : goal.returns
returns c =
    c.finish.ensures
    ∙ ap (λ n. all_ones - n) (c.loop-row.invariant ∙ ap (λ rs. register_after all_ones (rows_bytes (rows_mean rs))) (take_all c.loop-row.row-index c.args.rows.now (omega arith)))
