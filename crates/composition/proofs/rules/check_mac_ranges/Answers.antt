use Rattle.std.proofs.Common.{◌+◌, map, sym, ap, ◌∙◌}
use Rattle.std.proofs.lemmas.List.{at_drop_all}
use Rattle.composition.specs.Meaning.{node_means}
use Rattle.composition.specs.Faults.{told, mac_fault}
use Rattle.composition.proofs.Steps.{mac_good, mac_bad}
use Rattle.composition.proofs.rules.check_mac_ranges.Goals as goal

pub returns-then-not-is_mac : goal.returns-then-not-is_mac
returns-then-not-is_mac c =
    let i = c.loop-i.i in
    let ns = c.args.nodes.now in
    sym (ap told (c.loop-i.invariant ∙ mac_bad ns i c.loop-i-test.true (i + 1) (sym c.if-not-is_mac.ensures)))

pub loop-i-preserved : goal.loop-i-preserved
loop-i-preserved c =
    let i = c.loop-i.i in
    let ns = c.args.nodes.now in
    c.loop-i.invariant ∙ mac_good ns i c.loop-i-test.true (i + 1) (sym c.if-not-is_mac.ensures)

pub returns : goal.returns
returns c =
    let i = c.loop-i.i in
    sym (ap told (c.loop-i.invariant ∙ at_drop_all (λ xs. mac_fault (i + 1) (map node_means xs)) c.args.nodes.now i c.loop-i-test.false))
