use Rattle.train.proofs.Agreed.{agreement}
use Rattle.train.proofs.agreement_keeps_rules.Goals as goal

pub returns : goal.returns
returns c = agreement
