use Rattle.std.proofs.Common.{deque_len}
use Rattle.backbone.proofs.holds.Holds.end.Given as goal

abbrev pub decreases-loop-mac : goal.decreases-loop-mac
decreases-loop-mac l = deque_len l.in_hand
