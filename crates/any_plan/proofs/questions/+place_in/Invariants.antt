use Rattle.any_plan.proofs.any.AnyPlan.TheLaws.{the_size}
use Rattle.any_plan.proofs.questions.+place_in.Given as goal

abbrev pub decreases-place_in : goal.decreases-place_in
decreases-place_in l = the_size l.plan.now
