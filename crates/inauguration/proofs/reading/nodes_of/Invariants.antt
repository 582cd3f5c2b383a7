use Rattle.std.proofs.Common.{◌≡◌, ◌+◌, ◌++◌, map, drop, length}
use Rattle.train.specs.Rules.{node_count}
use Rattle.train.specs.Rows.{met}
use Rattle.directory.specs.Meaning.{met_means}
use Rattle.inauguration.specs.Consists.{line_of}
use Rattle.inauguration.specs.Nodes.{plain}
use Rattle.inauguration.proofs.reading.nodes_of.Given as goal

abbrev pub invariant-loop-consist : goal.invariant-loop-consist
invariant-loop-consist l = record {
  counted : length l.nodes.items + node_count (line_of (drop l.consist-index l.consists)) ≡ node_count (line_of l.consists);
  done : map met_means l.nodes.items ++ map plain (met (line_of (drop l.consist-index l.consists))) ≡ map plain (met (line_of l.consists));
}
