use Rattle.std.proofs.Common.{◌≡◌, ◌-◌, ◌≤◌, length, drop, None}
use Rattle.hello_read.specs.Tlvs.{walk}
use Rattle.hello_read.proofs.tlv.behind_first.Given as goal

abbrev pub invariant-loop-kind : goal.invariant-loop-kind
invariant-loop-kind l = (l.at ≤ length l.frame) × (walk 0 l.at (l.kind - 1) None (drop l.at l.frame) ≡ walk 0 18 0 None (drop 18 l.frame))
