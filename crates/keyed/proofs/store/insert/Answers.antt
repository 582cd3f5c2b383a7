use Rattle.std.proofs.Common.{take, arith}
use Rattle.std.proofs.lemmas.List.{length-take}
use Rattle.std.proofs.lemmas.List.Edits.{length-insert}
use Rattle.keyed.proofs.Moves.{insert_is}
use Rattle.keyed.proofs.store.insert.Goals as goal

pub returns : goal.returns
returns g c =
    let count = length-take c.args.len c.args.slots.now in
    let after = length-insert (take c.args.len c.args.slots.now) c.args.at c.args.item (omega arith) in
    record { count = omega arith; slots = insert_is c.args.slots.now c.args.len c.args.at c.args.item c.requires.0 c.requires.1 _ c.rotate_right.ensures.after }
