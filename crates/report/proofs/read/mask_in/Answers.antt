use Rattle.std.proofs.Common.{◌∙◌, arith}
use Rattle.report.specs.Reading.{nodes_in}
use Rattle.report.proofs.Masks.{mask_word, mask_past}
use Rattle.report.proofs.read.mask_in.Goals as goal

pub returns-then-i-from : goal.returns-then-i-from
returns-then-i-from c =
    let ws = c.args.words.now in
    c.low_bits.ensures ∙ mask_word ws (nodes_in ws) c.args.i (omega arith)

pub returns-else-i-from : goal.returns-else-i-from
returns-else-i-from c =
    let ws = c.args.words.now in
    mask_past ws (nodes_in ws) c.args.i (omega arith)
