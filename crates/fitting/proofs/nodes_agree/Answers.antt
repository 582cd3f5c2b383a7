use Rattle.fitting.proofs.Answers.{nodes_agree}
use Rattle.fitting.proofs.nodes_agree.Goals as goal

pub returns : goal.returns
returns c = nodes_agree
