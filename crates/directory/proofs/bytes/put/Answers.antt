use Rattle.std.proofs.Common.{◌≡◌, ◌+◌, ◌-◌, ◌*◌, get_or, take, sym, refl, ap, ◌∙◌, arith}
use borrow.Rule.Slice.PartMut.{put_mid}
use Rattle.std.proofs.lemmas.List.{take_all}
use Rattle.keyed.specs.Table.{written}
use Rattle.train.specs.Bytes.{row_bytes, rows_bytes}
use Rattle.directory.specs.Meaning.{blank, row_means, rows_mean}
use Rattle.directory.proofs.Octets.{rows_bytes_more, front_long, written_more}
use Rattle.directory.proofs.bytes.put.Goals as goal

pub loop-i-preserved : goal.loop-i-preserved
loop-i-preserved c =
    let i = c.loop-i.i in
    let rows = c.args.rows.now in
    let out = c.args.out.now in
    let front = rows_bytes (rows_mean (take i rows)) in
    let next = row_bytes (row_means (get_or rows i blank)) in
    let copied : c.copy_from_slice.new.self ≡ next = c.copy_from_slice.ensures.after ∙ c.bytes.ensures in
    let width : 20 * i + 20 - 20 * i ≡ 20 = omega arith in
    (λ j. put_mid (20 * i) (width j) (c.loop-i.invariant j) (copied j))
    ∙ written_more (20 * i) 20 front next out (front_long rows i (omega arith)) refl
    ∙ ap (λ bs. written bs out) (sym (rows_bytes_more rows i c.loop-i-test.true))

pub returns : goal.returns
returns c =
    c.loop-i.invariant
    ∙ ap (λ rs. written (rows_bytes (rows_mean rs)) c.args.out.now) (take_all c.loop-i.i c.args.rows.now (omega arith))
