use Rattle.std.proofs.Common.{◌≡◌, ◌+◌, ◌-◌, length, drop, None, subst, arith}
use Rattle.std.proofs.lemmas.Bool.{ne_eqb}
use Rattle.hello_read.specs.Tlvs.{walk}
use Rattle.hello_read.proofs.Turns.{within, at_order, at_first}
use Rattle.hello_read.proofs.tlv.behind_first.Goals as goal

pub returns-then-tlv-kind : goal.returns-then-tlv-kind
returns-then-tlv-kind c =
    at_order c.loop-kind.at (c.loop-kind.kind - 1) None c.args.frame.now c.loop-kind.invariant.1 c.in_ok-tlv.tlv.kind c.in_ok-tlv.tlv.contents.now c.in_ok-tlv.ensures (omega arith) (ne_eqb _ _ (λ e. omega arith))

pub loop-kind-preserved : goal.loop-kind-preserved
loop-kind-preserved c =
    let far = c.loop-kind.at + (2 + length c.in_ok-tlv.tlv.contents.now) in
    let next : c.loop-kind.kind - 1 + 1 ≡ c.loop-kind.kind + 1 - 1 = omega arith in (
      within c.loop-kind.at (c.loop-kind.kind - 1) None c.args.frame.now c.loop-kind.invariant.1 c.in_ok-tlv.tlv.kind c.in_ok-tlv.tlv.contents.now c.in_ok-tlv.ensures,
      subst (λ n. walk 0 far n None (drop far c.args.frame.now) ≡ walk 0 18 0 None (drop 18 c.args.frame.now)) next
          (at_first c.loop-kind.at (c.loop-kind.kind - 1) None c.args.frame.now c.loop-kind.invariant.1 c.in_ok-tlv.tlv.kind c.in_ok-tlv.tlv.contents.now c.in_ok-tlv.ensures (omega arith) (omega arith)),
    )
