use Rattle.std.proofs.Common.{length, Ok, Err, sym, refl, subst}
use Rattle.std.proofs.lemmas.Result.{err_from_is_err_and}
use Rattle.keyed.specs.Rising.{Rising}
use Rattle.keyed.specs.Table.{live}
use Rattle.keyed.proofs.Stored.{store_live, store_rises}
use Rattle.keyed.proofs.Map.{table_is_map}
use Rattle.keyed.proofs.table.Table.store.Goals as goal

pub returns-in_err-count : goal.returns-in_err-count
returns-in_err-count g c =
    let done = c.in_err-count.ensures in
    let kept = store_live g.R.Key.Key.order g.R.Record.under c.args.self.now.slots.now c.args.self.now.len c.args.item (Err (record {})) c.store.new.slots done.answer done.slots in
    let answered = err_from_is_err_and c.from_residual.result c.from_residual.ensures.1 in
    record {
      answer = rw answered.1 done.answer;
      live = kept;
      slots = done.slots;
      rising = λ h. subst (Rising g.R.Key.Key.order g.R.Record.under) (sym kept) (store_rises g.R.Key.Key.order g.R.Record.under g.met.R.Key.Key.total c.args.item (length c.args.self.now.slots.now) (live c.args.self.now) h);
      lender = refl {a = c.args.self.now.slots.ghost_name};
      map = table_is_map g.R.Key.Key.order g.R.Record.under g.met.R.Key.Key.total;
    }

pub returns : goal.returns
returns g c =
    let done = c.in_ok-count.ensures in
    let kept = store_live g.R.Key.Key.order g.R.Record.under c.args.self.now.slots.now c.args.self.now.len c.args.item (Ok c.in_ok-count.count) c.store.new.slots done.answer done.slots in
    record {
      answer = done.answer;
      live = kept;
      slots = done.slots;
      rising = λ h. subst (Rising g.R.Key.Key.order g.R.Record.under) (sym kept) (store_rises g.R.Key.Key.order g.R.Record.under g.met.R.Key.Key.total c.args.item (length c.args.self.now.slots.now) (live c.args.self.now) h);
      lender = refl {a = c.args.self.now.slots.ghost_name};
      map = table_is_map g.R.Key.Key.order g.R.Record.under g.met.R.Key.Key.total;
    }
