-- Each plan keeps the plan laws: by induction over the layers. Assumes nothing.
use Rattle.std.specs.Prelude.{ℕ}
use Rattle.std.proofs.Common.{rules}
use Rattle.plan.specs.Meaning.{Lawful}
use Rattle.plan.specs.TrainPlan.{train_serves, train_stands}
use Rattle.plan.specs.ConsistPlan.{consist_serves, consist_stands}
use Rattle.plan.specs.HomeLayerLemmas.{home_lawful}
use Rattle.any_plan.specs.Chosen.{Chosen, train, consist, home, any_means}

train_lawful : (b : ℕ) → Lawful (train_serves b) (train_stands b)
train_lawful b = search rules

consist_lawful : (s : ℕ) → Lawful (consist_serves s) (consist_stands s)
consist_lawful s = search rules

pub any_lawful : (plan : Chosen) → Lawful (any_means plan).serves (any_means plan).stands
any_lawful (train b) = train_lawful b
any_lawful (consist s) = consist_lawful s
any_lawful (home s below) = home_lawful s (any_means below).serves (any_means below).stands (any_lawful below)
