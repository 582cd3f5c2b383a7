use Rattle.train.proofs.Agreed.{one_directory}
use Rattle.train.proofs.one_directory.Goals as goal

pub returns : goal.returns
returns c = one_directory
