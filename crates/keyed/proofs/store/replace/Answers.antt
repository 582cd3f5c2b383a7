use Rattle.std.proofs.Common.{take, arith}
use Rattle.std.proofs.lemmas.List.{length-set, length-take}
use Rattle.keyed.proofs.Live.{set_live}
use Rattle.keyed.proofs.store.replace.Goals as goal

pub returns : goal.returns
returns g c =
    let count = length-take c.args.len c.args.slots.now in
    let before = length-set c.args.slots.now c.args.at c.args.item in
    let after = length-set (take c.args.len c.args.slots.now) c.args.at c.args.item in
    record { count = omega arith; slots = set_live c.args.slots.now c.args.len c.args.at c.args.item (omega arith) }
