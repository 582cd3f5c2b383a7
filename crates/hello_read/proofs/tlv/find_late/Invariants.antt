use Rattle.std.proofs.Common.{◌≡◌, ℕ, ◌-◌, ◌≤◌, length, drop, None}
use Rattle.hello_read.specs.Tlvs.{walk}
use Rattle.hello_read.proofs.tlv.find_late.Given as goal

-- with the TLV's number, which the code does not keep
abbrev pub invariant-loop-tlv : goal.invariant-loop-tlv
invariant-loop-tlv l = (l.at ≤ length l.frame) × (n : ℕ) × (3 ≤ n) × (walk 0 l.at n l.found (drop l.at l.frame) ≡ walk 0 l.from 3 None (drop l.from l.frame))

abbrev pub decreases-loop-tlv : goal.decreases-loop-tlv
decreases-loop-tlv l = length l.frame - l.at
