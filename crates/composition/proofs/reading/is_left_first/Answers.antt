use Rattle.std.proofs.Common.{ltb, sym, ◌∙◌}
use Rattle.composition.proofs.Gathering.{left_is, right_is}
use Rattle.composition.proofs.reading.is_left_first.Goals as goal

pub returns : goal.returns
returns c =
    let cs = c.args.consists.now in
    let l = left_is cs c.requires in
    let r = right_is cs c.requires in
    c.is_less.ensures ∙ (λ i. ltb (sym l i) (sym r i))
