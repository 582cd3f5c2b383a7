use Rattle.train.proofs.Numbered.{numbered}
use Rattle.train.proofs.numbered_without_gap.Goals as goal

pub returns : goal.returns
returns c = numbered
