use Rattle.fitting.proofs.Answers.{inaugurates}
use Rattle.fitting.proofs.inaugurates.Goals as goal

pub returns : goal.returns
returns c = inaugurates
