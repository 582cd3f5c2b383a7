use Rattle.std.proofs.Common.{◌≡◌, ◌+◌, [], ◌∷◌, ◌++◌, length, refl, arith, length-append}
use Rattle.hello_read.specs.Layout.{head}
use Rattle.hello_write.specs.Layout.{big, chassis_tlv, port_tlv, time_tlv, end_tlv, contents}
use Rattle.hello_write.specs.Writing.{meant}
use Rattle.hello_write.proofs.Laying.{then, then_part, then_tlv}
use Rattle.hello_write.proofs.frame.write_frame.Goals as goal

pub returns : goal.returns
returns c =
    let bs = c.args.part.now in
    let h = meant c.args.hello.now in
    let a = head (big 6 h.source) in
    let b = a ++ chassis_tlv h.source in
    let d = b ++ port_tlv h.port in
    let e = d ++ time_tlv c.args.seconds in
    let f = e ++ 0xFE ∷ 0x56 ∷ [] in
    let g = f ++ contents h in
    let one = then_tlv 0 18 6 a (2 ∷ 7 ∷ 4 ∷ []) h.source bs _ c.write_tlv.new.part refl c.write_head.ensures refl (omega arith) c.write_tlv.ensures in
    let two = then_tlv 0 27 1 b (4 ∷ 2 ∷ 6 ∷ []) h.port bs _ c.write_tlv-2.new.part c.from-port.ensures one refl (omega arith) c.write_tlv-2.ensures in
    let three = then_tlv 0 31 2 d (6 ∷ 2 ∷ []) c.args.seconds bs _ c.write_tlv-3.new.part c.from.ensures two refl (omega arith) c.write_tlv-3.ensures in
    let four = then 0 35 e (0xFE ∷ 0x56 ∷ []) bs three refl (omega arith) c.put.ensures in
    let five = then_part 0 37 f (contents h) bs _ c.write_contents.new.part four refl (omega arith) c.write_contents.ensures.bytes in
    let long : 0 + length g ≡ 123 = omega (arith, length-append f (contents h), c.write_contents.ensures.size) in
    record { bytes = then 0 123 g end_tlv bs five long (omega arith) c.put-2.ensures; widths = c.write_contents.ensures.widths }
