use Rattle.std.proofs.Common.{◌≡◌, ◌+◌, true, false, map, get_or, sym, ap, ◌∙◌, arith}
use Rattle.std.proofs.lemmas.List.{at_drop_all}
use Rattle.std.proofs.lemmas.Bool.Decides.{nat_tests}
use Rattle.report.specs.Masks.{is_mask}
use Rattle.composition.specs.Meaning.{node_means}
use Rattle.composition.specs.Faults.{told, mask_fault}
use Rattle.composition.proofs.Steps.{no_node, mask_good, mask_bad}
use Rattle.composition.proofs.rules.check_masks.Goals as goal

pub returns-then-node-eq0 : goal.returns-then-node-eq0
returns-then-node-eq0 c =
    let i = c.loop-i.i in
    let ns = c.args.nodes.now in
    let none : is_mask (get_or ns i no_node).mask ≡ false = ap is_mask c.if-node-eq0.true in
    sym (ap told (c.loop-i.invariant ∙ mask_bad ns i c.loop-i-test.true (i + 1) none))

pub loop-i-preserved : goal.loop-i-preserved
loop-i-preserved c =
    let i = c.loop-i.i in
    let ns = c.args.nodes.now in
    let some : is_mask (get_or ns i no_node).mask ≡ true = grind (arith, nat_tests) in
    c.loop-i.invariant ∙ mask_good ns i c.loop-i-test.true (i + 1) some

pub returns : goal.returns
returns c =
    let i = c.loop-i.i in
    sym (ap told (c.loop-i.invariant ∙ at_drop_all (λ xs. mask_fault (i + 1) (map node_means xs)) c.args.nodes.now i c.loop-i-test.false))
