use Rattle.std.proofs.Common.{◌&&◌, sym, ap, ◌∙◌, arith}
use Rattle.report.specs.Reports.{is_mac, is_uuid}
use Rattle.report.specs.Reading.{mac_in, uuid_in}
use Rattle.report.proofs.Table.{own_at, part_at, last_at}
use Rattle.report.proofs.read.is_right_before.Goals as goal

pub returns-then-is_of : goal.returns-then-is_of
returns-then-is_of c =
    let ws = c.args.words.now in
    c.is_valid.ensures ∙ ap is_mac c.mac_in.ensures ∙ ap (λ b. b && is_mac (mac_in 1 ws)) c.if-is_of.ensures
    ∙ sym (own_at ws c.args.place c.args.word c.in-2.is)

pub returns-else-is_of : goal.returns-else-is_of
returns-else-is_of c =
    let ws = c.args.words.now in
    c.if-is_of.false ∙ ap (λ b. b && is_mac (mac_in 1 ws)) c.if-is_of.ensures ∙ sym (own_at ws c.args.place c.args.word c.in-2.is)

pub returns-in-8 : goal.returns-in-8
returns-in-8 c = c.is_of-in-8.ensures ∙ sym (part_at c.args.words.now c.args.place c.args.word (omega arith) (omega arith))

pub returns-then-is_of-2 : goal.returns-then-is_of-2
returns-then-is_of-2 c =
    let ws = c.args.words.now in
    c.is_valid-then-is_of-2.ensures ∙ ap is_uuid c.uuid_in.ensures ∙ ap (λ b. b && is_uuid (uuid_in ws)) c.if-is_of-2.ensures
    ∙ sym (last_at ws c.args.place c.args.word (omega arith))

pub returns-else-is_of-2 : goal.returns-else-is_of-2
returns-else-is_of-2 c =
    let ws = c.args.words.now in
    c.if-is_of-2.false ∙ ap (λ b. b && is_uuid (uuid_in ws)) c.if-is_of-2.ensures ∙ sym (last_at ws c.args.place c.args.word (omega arith))
