use Rattle.std.proofs.Common.{sym, ◌∙◌, arith}
use Rattle.hello_read.proofs.Frames.{found_within}
use Rattle.hello_read.proofs.tlv.find_hello.Goals as goal

pub returns-clause-within : goal.returns-clause-within
returns-clause-within c = found_within c.args.frame.now c.find_late.result (omega arith) (c.in_ok-from.ensures.1 ∙ sym c.find_late.ensures)
