use Rattle.std.proofs.Common.{◌≡◌, ◌+◌, ◌-◌, ltb, get_or, drop, sym, ap, ◌∙◌, arith}
use Rattle.std.proofs.lemmas.List.{at_drop_more, at_drop_all}
use Rattle.std.proofs.lemmas.Bool.Decides.{nat_tests}
use Rattle.report.specs.Reports.{filled}
use Rattle.report.proofs.Masks.{fits_here, fails_here}
use Rattle.report.proofs.range.is_filled.Goals as goal

pub loop-i-preserved : goal.loop-i-preserved
loop-i-preserved c =
    let i = c.loop-i.i in
    let n = c.args.nodes in
    let ms = c.args.masks.now in
    let same : ltb i n ≡ ltb 0 (n - i) = grind (arith, nat_tests) in
    let one : n - i - 1 ≡ n - (i + 1) = omega arith in
    c.loop-i.invariant ∙ at_drop_more (filled (n - i)) ms i 0 c.loop-i-test.true
    ∙ fits_here (get_or ms i 0) (drop (i + 1) ms) (omega arith) (n - i) (rw same at c.if-mask-i.false)
    ∙ ap (λ k. filled k (drop (i + 1) ms)) one

pub returns-then-mask-i : goal.returns-then-mask-i
returns-then-mask-i c =
    let i = c.loop-i.i in
    let n = c.args.nodes in
    let ms = c.args.masks.now in
    let same : ltb i n ≡ ltb 0 (n - i) = grind (arith, nat_tests) in
    sym (c.loop-i.invariant ∙ at_drop_more (filled (n - i)) ms i 0 c.loop-i-test.true
    ∙ fails_here (get_or ms i 0) (drop (i + 1) ms) (omega arith) (n - i) (rw same at c.if-mask-i.true))

pub returns : goal.returns
returns c =
    let i = c.loop-i.i in
    sym (c.loop-i.invariant ∙ at_drop_all (filled (c.args.nodes - i)) c.args.masks.now i c.loop-i-test.false)
