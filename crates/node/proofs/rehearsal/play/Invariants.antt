use Rattle.node.specs.Seen.{seen}
use Rattle.node.proofs.Plays.{Playing}
use Rattle.node.proofs.rehearsal.play.Given as goal

abbrev pub invariant-loop-i : goal.invariant-loop-i
invariant-loop-i g l =
    Playing (g.P.Plan.means l.plan) (seen l.initial.node) l.calls l.initial.output l.output
    l.initial.records l.records l.i (seen l.node)
