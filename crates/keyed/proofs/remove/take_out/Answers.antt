use Rattle.std.proofs.Common.{◌≡◌, length, take, ap, ◌∙◌, arith}
use Rattle.std.specs.List.{remove}
use Rattle.std.proofs.lemmas.List.{length-take}
use Rattle.keyed.specs.Table.{written}
use Rattle.keyed.proofs.Live.{take_live}
use Rattle.keyed.proofs.Moves.{take_out_is}
use Rattle.keyed.proofs.remove.take_out.Goals as goal

pub returns-clause-slots : goal.returns-clause-slots
returns-clause-slots g c =
    let slots = c.args.slots.now in
    let many : c.min-len.result ≡ length (take c.args.len slots) = omega (arith, length-take c.args.len slots) in
    let live = ap (λ n. take n slots) many ∙ take_live slots c.args.len in
    c.copy_within.ensures.after ∙ take_out_is slots c.min-len.result c.args.at (omega arith) (omega arith) ∙ ap (λ xs. written (remove xs c.args.at) slots) live
