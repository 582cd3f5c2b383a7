-- The register after the bytes so far, one byte further on. Assumes nothing.
use Rattle.std.proofs.Common.{◌^◌, ◌<◌, take, sym, arith, take_all}
use Rattle.counter.proofs.Register.{register_lt, register_none, register_step, register_more, parts_join}
use Rattle.counter.proofs.Detection.{detects_one_byte}
use Rattle.counter.proofs.advance.Goals as goal

pub loop-byte-init : goal.loop-byte-init
loop-byte-init c = sym (register_none c.args.register (omega arith))

pub loop-byte-preserved : goal.loop-byte-preserved
loop-byte-preserved c =
    let i = c.loop-byte.byte-index in
    let now = c.loop-byte.register in
    let bytes = c.args.bytes.now in
    let fits : now < 2 ^ 32 = omega (arith, c.loop-byte.invariant, register_lt c.args.register (take i bytes)) in
    let byte : c.from.result < 256 = omega (arith, c.type_inv.bytes i) in
    let one = register_step now c.from.result c.entry.result fits byte c.entry.ensures in
    let more = register_more c.args.register bytes i c.loop-byte-test.true in
    cc

pub returns : goal.returns
returns c =
    let all = take_all c.loop-byte.byte-index c.args.bytes.now c.loop-byte-test.false in
    record { value = cc; joins = parts_join; detects = detects_one_byte }
