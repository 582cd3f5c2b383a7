use Rattle.fitting.specs.Walk.{unmet}
use Rattle.inauguration.proofs.Kept.{Kept}
use Rattle.inauguration.proofs.chain.find_chain.Given as goal

abbrev pub invariant-loop-met : goal.invariant-loop-met
invariant-loop-met l = Kept l.held l.met l.chain.items l.left.0 l.mac.0

abbrev pub decreases-loop-met : goal.decreases-loop-met
decreases-loop-met l = unmet l.met
