use Rattle.std.proofs.Common.{length, ap, ◌∙◌}
use Rattle.std.proofs.lemmas.List.{length-take}
use Rattle.keyed.proofs.Live.{take_cut}
use Rattle.keyed.proofs.list.records.Goals as goal

pub returns : goal.returns
returns g c =
    let cut = take_cut c.args.slots.now c.args.len c.min-count.result c.min-count.ensures in
    record { value = cut; len = ap length cut ∙ length-take c.args.len c.args.slots.now }
