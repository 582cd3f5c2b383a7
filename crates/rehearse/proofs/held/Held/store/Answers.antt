use Rattle.std.proofs.Common.{List, length, take, ap, ◌∙◌}
use Rattle.keyed.specs.Store.{store_answer, store_leaves}
use Rattle.keyed.specs.Table.{live}
use Rattle.report.specs.declared.Mac.{Mac}
use Rattle.report.specs.declared.Report.{Report}
use Rattle.rehearse.specs.Rows.{by_number, at_hand}
use Rattle.rehearse.proofs.Kept.{kept}
use Rattle.rehearse.proofs.held.Held.store.Goals as goal

pub returns : goal.returns
returns c =
    let r = c.args.report in
    let n = c.in_ok-count.count in
    let before = c.args.self.now in
    let table = c.new-table.result in
    let under : Report → Mac = λ x. x.mac in
    let same-slots = c.new-table.ensures.slots in
    let same_rows = c.new-table.ensures.live in
    let answer =
    c.in_ok-count.ensures.answer
    ∙ ap (λ (s : List Report). store_answer by_number under r (length s) (live table)) same-slots
    ∙ ap (λ (xs : List Report). store_answer by_number under r (length before.places) xs) same_rows
    in
    record {
      answer = answer;
      rows =
          ap (take n) c.store.ensures.slots
          ∙ ap (λ (s : List Report). take n (store_leaves by_number under r s (live table))) same-slots
          ∙ ap (λ (xs : List Report). take n (store_leaves by_number under r before.places xs)) same_rows
          ∙ kept by_number under r before.places (at_hand before) n answer;
    }
