use Rattle.std.proofs.Common.{◌+◌, true, false, not, Ok, sym, refl, ap, ◌∙◌, arith}
use Rattle.std.proofs.lemmas.Bool.{eq-eqb, ne_eqb}
use Rattle.hello_read.proofs.Turns.{within, at_late}
use Rattle.hello_read.proofs.tlv.find_late.Goals as goal
use Rattle.hello_read.proofs.tlv.find_late.Goals.{then-is_hello+else-tlv-ne-CONTENTS+in_ok-found, else-is_hello}

pub loop-tlv-preserved : goal.loop-tlv-preserved
loop-tlv-preserved c =
    let frame = c.args.frame.now in
    let p = c.loop-tlv.at in
    let n = c.loop-tlv.invariant.1 in
    let so = c.loop-tlv.invariant.3 in
    let t = c.in_ok-tlv.tlv in
    let go = at_late p n c.loop-tlv.found frame so t.kind t.contents.now c.in_ok-tlv.ensures in
    let no_end = ne_eqb t.kind 0 c.if-tlv-eq0.false in (
      within p n c.loop-tlv.found frame so t.kind t.contents.now c.in_ok-tlv.ensures,
      n + 1,
      omega (arith, c.loop-tlv.invariant.2),
      elim c.if-is_hello.branch [
        | then-is_hello+else-tlv-ne-CONTENTS+in_ok-found w ↦
            go true c.if-is_hello.found c.loop-tlv.invariant.2 no_end (sym c.is_hello.ensures ∙ w.if-is_hello.true) (ap not (eq-eqb _ _ w.if-tlv-ne-CONTENTS.false))
            (sym w.note.ensures ∙ w.in_ok-found.was ∙ ap Ok (sym w.found-is))
        | else-is_hello w ↦ go false c.if-is_hello.found c.loop-tlv.invariant.2 no_end (sym c.is_hello.ensures ∙ w.if-is_hello.false) refl (ap Ok (sym w.found-is))
      ],
    )
