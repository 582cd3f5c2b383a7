use Rattle.std.proofs.Common.{Less, Equal, Greater, sym, arith}
use Rattle.keyed.proofs.Found.{place_none, place_more, place_all}
use Rattle.keyed.proofs.find.place_of.Goals as goal

pub loop-i-init : goal.loop-i-init
loop-i-init g c = place_none g.R.Key.Key.order g.R.Record.under c.args.key.now c.args.records.now

pub loop-i-preserved : goal.loop-i-preserved
loop-i-preserved g c = place_more g.R.Key.Key.order g.R.Record.under c.args.key.now Less c.key.result c.args.records.now c.loop-i.i c.index-records-i.result c.in-Less.ensures c.key.ensures c.loop-i-test.true c.index-records-i.is c.loop-i.invariant

pub returns-in-Equal : goal.returns-in-Equal
returns-in-Equal g c =
    let there = place_more g.R.Key.Key.order g.R.Record.under c.args.key.now Equal c.key.result c.args.records.now c.loop-i.i c.index-records-i.result c.in-Equal.ensures c.key.ensures c.loop-i-test.true c.index-records-i.is c.loop-i.invariant in
    record { place = sym there; within = c.loop-i-test.true }

pub returns-in-Greater : goal.returns-in-Greater
returns-in-Greater g c =
    let there = place_more g.R.Key.Key.order g.R.Record.under c.args.key.now Greater c.key.result c.args.records.now c.loop-i.i c.index-records-i.result c.in-Greater.ensures c.key.ensures c.loop-i-test.true c.index-records-i.is c.loop-i.invariant in
    record { place = sym there; within = omega arith }

pub returns : goal.returns
returns g c =
    record { place = place_all g.R.Key.Key.order g.R.Record.under c.args.key.now c.args.records.now c.loop-i.i (omega arith) c.loop-i-test.false c.loop-i.invariant; within = omega arith }
