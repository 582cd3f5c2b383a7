use Rattle.std.proofs.Common.{refl, ap, rules}
use Rattle.node.specs.Recorded.{calling}
use Rattle.node.proofs.Steps.{with_buffer}
use Rattle.node.proofs.node.Node.call.Goals as goal

pub returns-in-Take : goal.returns-in-Take
returns-in-Take g c = with_buffer c.args.out.now (ap calling c.in-Take.is) refl refl (λ _. refl) (c.take.ensures _)

pub returns-in-Hold : goal.returns-in-Hold
returns-in-Hold g c = with_buffer c.args.out.now (ap calling c.in-Hold.is) (search rules) refl (λ _. refl) (c.hold.ensures _)
