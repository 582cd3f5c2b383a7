use Rattle.train.proofs.Limits.{limits_suffice}
use Rattle.train.proofs.limits_suffice.Goals as goal

pub returns : goal.returns
returns c = limits_suffice
