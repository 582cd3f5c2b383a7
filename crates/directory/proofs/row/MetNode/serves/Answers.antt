use Rattle.std.proofs.Common.{◌-◌, ◌/◌, ◌^◌, eqb, ap}
use Rattle.std.proofs.lemmas.Nat.{and_mask}
use Rattle.directory.proofs.row.MetNode.serves.Goals as goal

pub returns : goal.returns
returns c = ap (λ b. eqb b 1) (and_mask (c.args.self.now.mask / 2 ^ (c.args.network - 1)) 1)
