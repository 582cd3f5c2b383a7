use Rattle.any_plan.proofs.any.AnyPlan.TheLaws.{the_size}
use Rattle.any_plan.proofs.questions.+address_in.Given as goal

abbrev pub decreases-address_in : goal.decreases-address_in
decreases-address_in l = the_size l.plan.now
