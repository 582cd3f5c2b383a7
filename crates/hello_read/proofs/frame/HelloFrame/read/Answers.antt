use Rattle.hello_read.proofs.Frames.{exact}
use Rattle.hello_read.proofs.frame.HelloFrame.read.Goals as goal

pub returns : goal.returns
returns c = record { answer = c.read_frame.ensures.answer; frame = c.read_frame.ensures.frame; exact = exact }
