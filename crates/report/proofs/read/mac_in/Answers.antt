use Rattle.std.proofs.Common.{◌∙◌, arith}
use Rattle.report.proofs.Bits.{two_parts}
use Rattle.report.proofs.read.mac_in.Goals as goal

pub returns : goal.returns
returns c = two_parts c.low_bits.result c.low_bits-2.result 24 (omega arith) (omega arith) ∙ omega arith
