use Rattle.std.proofs.Common.{◌≡◌, ◌+◌, ◌++◌, map, take, reverse, length}
use Rattle.std.specs.Iterator.Adapters.{rev_source}
use Rattle.std.specs.Slice.Iter.{iter_rest}
use Rattle.directory.specs.Meaning.{met_means}
use Rattle.inauguration.specs.Nodes.{node_of}
use Rattle.inauguration.proofs.reading.meet.Given as goal

abbrev pub invariant-loop-mask : goal.invariant-loop-mask
invariant-loop-mask l = record {
  counted : length l.nodes.items ≡ length l.initial.nodes.items + l.mask-index;
  done : map met_means l.nodes.items ≡ map met_means l.initial.nodes.items ++ map (node_of l.consist) (take l.mask-index l.masks);
}

abbrev pub invariant-loop-mask-2 : goal.invariant-loop-mask-2
invariant-loop-mask-2 l = record {
  can : (goal.iterator-loop-mask-2).can_next l.mask-iterator;
  finite : (goal.iterator-loop-mask-2).is_finite l.mask-iterator;
  counted : length l.nodes.items + length (iter_rest (rev_source l.mask-iterator)) ≡ length l.initial.nodes.items + length (iter_rest (rev_source l.initial.mask-iterator));
  done : map met_means l.nodes.items ++ map (node_of l.consist) (reverse (iter_rest (rev_source l.mask-iterator)))
      ≡ map met_means l.initial.nodes.items ++ map (node_of l.consist) (reverse (iter_rest (rev_source l.initial.mask-iterator)));
}
