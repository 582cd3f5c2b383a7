use Rattle.std.proofs.Common.{◌≡◌, ◌/◌, ◌%◌, arith}
use lib.Bits.{bit_and}
use Rattle.std.proofs.lemmas.Nat.{and_mask}
use Rattle.report.proofs.Bits.{three_parts}
use Rattle.report.proofs.read.uuid_in.Goals as goal

pub returns : goal.returns
returns c =
    let m = c.low_bits-middle.result in
    let rest : bit_and m 255 ≡ m % 256 = and_mask m 8 in
    let high = three_parts c.low_bits.result c.low_bits-2.result (m / 256) 28 20 (omega arith) (omega arith) (omega arith) (omega arith) in
    let low = three_parts (bit_and m 255) c.low_bits-3.result c.low_bits-4.result 28 28 (omega arith) (omega arith) (omega arith) (omega arith) in
    omega (arith, high, low)
