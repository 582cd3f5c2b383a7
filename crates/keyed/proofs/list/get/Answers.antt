use Rattle.std.proofs.Common.{◌∙◌}
use Rattle.keyed.proofs.Live.{nth_item}
use Rattle.keyed.proofs.list.get.Goals as goal

pub returns : goal.returns
returns g c = c.copied.ensures ∙ nth_item c.args.records.now c.args.place c.get.result c.get.ensures.lookup
