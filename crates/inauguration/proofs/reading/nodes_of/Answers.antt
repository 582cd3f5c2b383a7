use Rattle.std.proofs.Common.{arith}
use Rattle.inauguration.proofs.Readings.{no_node, count_more, meets_more}
use Rattle.inauguration.proofs.reading.nodes_of.Goals as goal

pub loop-consist-preserved : goal.loop-consist-preserved
loop-consist-preserved c = record {
  counted = omega (arith, c.meet.ensures.count, c.loop-consist.invariant.counted, count_more c.args.consists.now c.loop-consist.consist-index no_node c.loop-consist-test.true);
  done = meets_more c.args.consists.now c.loop-consist.consist-index _ _ _ c.loop-consist-test.true c.meet.ensures.nodes c.loop-consist.invariant.done;
}
