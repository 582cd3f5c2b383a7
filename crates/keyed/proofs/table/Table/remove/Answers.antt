use Rattle.std.proofs.Common.{sym, refl, subst}
use Rattle.keyed.specs.Rising.{Rising}
use Rattle.keyed.specs.Table.{live}
use Rattle.keyed.proofs.Removed.{remove_live, remove_rises}
use Rattle.keyed.proofs.table.Table.remove.Goals as goal

pub returns : goal.returns
returns g c =
    let done = c.remove-item.ensures in
    let kept = remove_live g.R.Key.Key.order g.R.Record.under c.args.key.now c.args.self.now.slots.now c.args.self.now.len c.remove-item.result.1 c.remove-item.new.slots done.count done.slots in
    record {
      answer = done.answer;
      live = kept;
      slots = done.slots;
      rising = λ h. subst (Rising g.R.Key.Key.order g.R.Record.under) (sym kept) (remove_rises g.R.Key.Key.order g.R.Record.under c.args.key.now (live c.args.self.now) h);
      lender = refl {a = c.args.self.now.slots.ghost_name};
    }
