use Rattle.report.proofs.Masks.{unbroken_carries}
use Rattle.report.proofs.mask.is_gapless.Goals as goal

pub returns : goal.returns
returns c = rw c.from-all.ensures (unbroken_carries c.args.mask c.ranges.mask.fits)
