use Rattle.std.proofs.Common.{length, ap, ◌∙◌, take_at}
use Rattle.node.proofs.rehearsal.copied.Goals as goal

pub returns : goal.returns
returns c = take_at c.copy_from_slice.new.self _ _ (ap length c.copy_from_slice.ensures.after) ∙ c.copy_from_slice.ensures.after
