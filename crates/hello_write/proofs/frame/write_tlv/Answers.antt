use Rattle.std.proofs.Common.{length, arith}
use Rattle.hello_write.specs.Layout.{big}
use Rattle.hello_write.proofs.Laying.{then}
use Rattle.hello_write.proofs.frame.write_tlv.Goals as goal

pub returns : goal.returns
returns c =
    then 0 (length c.args.tlv.front.now) c.args.tlv.front.now (big c.args.tlv.bytes c.args.value) c.args.part.now c.put.ensures (omega arith) (omega arith) c.put_number.ensures
