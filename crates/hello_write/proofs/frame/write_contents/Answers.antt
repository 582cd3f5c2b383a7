use Rattle.std.proofs.Common.{◌≡◌, ◌+◌, ◌*◌, ◌++◌, length, refl, ap, ◌∙◌, arith, length-append}
use Rattle.hello_read.specs.Layout.{organization}
use Rattle.hello_write.specs.Layout.{big, packed, contents_front, contents_back}
use Rattle.hello_write.specs.Writing.{meant, laid}
use Rattle.hello_write.proofs.Laying.{then, then_number, length_laid}
use Rattle.hello_write.proofs.frame.write_contents.Goals as goal

pub returns : goal.returns
returns c =
    let h = meant c.args.hello.now in
    let bs = c.args.part.now in
    let a1 = organization ++ big 2 h.checksum in
    let a2 = a1 ++ big 4 0x0100_0000 in
    let a3 = a2 ++ big 4 h.life_sign in
    let s1 = then_number 0 4 2 organization h.checksum bs c.from-5.ensures c.put.ensures refl (omega arith) c.put_number.ensures in
    let s2 = then 0 6 a1 (big 4 0x0100_0000) bs s1 refl (omega arith) c.put_number-2.ensures in
    let s3 = then_number 0 10 4 a2 h.life_sign bs c.from-6.ensures s2 refl (omega arith) c.put_number-3.ensures in
    let s4 = then_number 0 14 4 a3 h.counter bs c.from-7.ensures s3 refl (omega arith) c.put_number-4.ensures in
    let s5 = then 0 18 (contents_front h) h.vendor bs s4 refl (omega arith) c.put-2.ensures in
    let front = contents_front h ++ h.vendor in
    let is_50 : 0 + length front ≡ 50 = omega (arith, length-append (contents_front h) h.vendor) in
    let mid = c.put-2.new.part in
    let long : length mid ≡ length bs = ap length s5 ∙ length_laid 0 front bs (omega arith) in
    let s = c.from.ensures in
    let t = c.from-2.ensures in
    let u = c.from-3.ensures in
    let v = c.from-4.ensures in
    let statuses : c.from.result * 64 + c.from-2.result * 16 + c.from-3.result * 4 + c.from-4.result ≡ packed h.statuses = (λ i. s i * 64 + t i * 16 + u i * 4 + v i) in
    let b1 = big 1 (packed h.statuses) in
    let b2 = b1 ++ big 1 h.timeout in
    let b3 = b2 ++ big 6 h.source in
    let b4 = b3 ++ big 1 h.port in
    let b5 = b4 ++ big 1 h.line in
    let b6 = b5 ++ big 1 h.direction in
    let b7 = b6 ++ big 1 h.inhibition in
    let b8 = b7 ++ big 6 h.remote in
    let b9 = b8 ++ big 2 0 in
    let r1 = c.put_number-5.ensures ∙ ap (λ n. laid 50 (big 1 n) mid) statuses in
    let r2 = then_number 50 51 1 b1 h.timeout mid c.from-8.ensures r1 refl (omega arith) c.put_number-6.ensures in
    let r3 = then 50 52 b2 (big 6 h.source) mid r2 refl (omega arith) c.put_number-7.ensures in
    let r4 = then_number 50 58 1 b3 h.port mid c.from-9.ensures r3 refl (omega arith) c.put_number-8.ensures in
    let r5 = then_number 50 59 1 b4 h.line mid c.from-10.ensures r4 refl (omega arith) c.put_number-9.ensures in
    let r6 = then_number 50 60 1 b5 h.direction mid c.from-11.ensures r5 refl (omega arith) c.put_number-10.ensures in
    let r7 = then_number 50 61 1 b6 h.inhibition mid c.from-12.ensures r6 refl (omega arith) c.put_number-11.ensures in
    let r8 = then 50 62 b7 (big 6 h.remote) mid r7 refl (omega arith) c.put_number-12.ensures in
    let r9 = then 50 68 b8 (big 2 0) mid r8 refl (omega arith) c.put_number-13.ensures in
    let r10 = then 50 70 b9 h.uuid mid r9 refl (omega arith) c.put-3.ensures in
    record {
      bytes = then 0 50 front (contents_back h) bs s5 is_50 (omega arith) r10;
      size = omega (arith, length-append front (contents_back h), is_50);
      widths = record { checksum = omega arith; life_sign = omega arith; counter = omega arith; port = omega arith; statuses = omega arith };
    }
