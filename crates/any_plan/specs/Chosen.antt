-- A plan that is chosen at run time, and what it means: each layer as the plan of its kind. Assumes nothing.
use Rattle.std.specs.Prelude.{ℕ}
use Rattle.plan.specs.Meaning.{Meaning}
use Rattle.plan.specs.TrainPlan.{train_means}
use Rattle.plan.specs.ConsistPlan.{consist_means}
use Rattle.plan.specs.HomeLayer.{home_means}
use Rattle.any_plan.specs.declared.any.AnyPlan.{AnyPlan}
use Rattle.any_plan.specs.declared.any.AnyPlan.TheVariants.{Train, Consist, Home'}

-- the train plan of backbone b, the consist plan of subnet s, the home layer of s over a plan
pub data Chosen : Type 0 where
  train : (b : ℕ) → Chosen
  consist : (s : ℕ) → Chosen
  home : (s : ℕ) (below : Chosen) → Chosen

-- `b` is what a box is beside the plan in it
abbrev pub chosen : AnyPlan → Chosen
chosen (Train plan) = train plan.backbone
chosen (Consist plan) = consist plan.subnet
chosen (Home' s b below) = home s (chosen below)

abbrev pub any_means : Chosen → Meaning
any_means (train b) = train_means b
any_means (consist s) = consist_means s
any_means (home s below) = home_means s (any_means below)
