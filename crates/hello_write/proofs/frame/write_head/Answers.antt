use Rattle.std.proofs.Common.{◌++◌, refl, arith}
use Rattle.hello_read.specs.Layout.{destination, tag}
use Rattle.hello_write.specs.Layout.{big}
use Rattle.hello_write.proofs.Laying.{then}
use Rattle.hello_write.proofs.frame.write_head.Goals as goal

pub returns : goal.returns
returns c =
    let bs = c.args.part.now in
    let source = big 6 c.args.source in
    let one = then 0 6 destination source bs c.put.ensures refl (omega arith) c.put_number.ensures in
    then 0 12 (destination ++ source) tag bs one refl (omega arith) c.put-2.ensures
