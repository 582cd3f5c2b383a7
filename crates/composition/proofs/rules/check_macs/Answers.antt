use Rattle.std.proofs.Common.{◌-◌, map, take, sym, ap, ◌∙◌}
use Rattle.std.specs.Option.{option_map}
use Rattle.std.specs.List.{flat_map}
use Rattle.std.proofs.lemmas.List.{at_drop_all}
use Rattle.composition.specs.declared.fault.LineFault.TheVariants.{MacTwice}
use Rattle.composition.specs.Meaning.{node_means, described}
use Rattle.composition.specs.Faults.{told, macs_in, repeats, twice_at, mac_row}
use Rattle.composition.proofs.Steps.{twice_not, twice_here}
use Rattle.composition.proofs.rules.check_macs.Goals as goal

pub returns-then-repeats_mac : goal.returns-then-repeats_mac
returns-then-repeats_mac c =
    let k = c.loop-place.place in
    let cs = c.args.consists.now in
    sym (ap (λ o. told (option_map MacTwice o)) (c.loop-place.invariant ∙ twice_here cs k c.loop-place-test.true mac_row (sym (c.if-repeats_mac.ensures ∙ ap (λ ns. repeats (flat_map mac_row (described (take (k - 0) cs))) (macs_in (map node_means ns))) c.nodes.ensures))))

pub loop-place-preserved : goal.loop-place-preserved
loop-place-preserved c =
    let k = c.loop-place.place in
    let cs = c.args.consists.now in
    c.loop-place.invariant ∙ twice_not cs k c.loop-place-test.true mac_row (sym (c.if-repeats_mac.ensures ∙ ap (λ ns. repeats (flat_map mac_row (described (take (k - 0) cs))) (macs_in (map node_means ns))) c.nodes.ensures))

pub returns : goal.returns
returns c =
    let k = c.loop-place.place in
    let cs = c.args.consists.now in
    let end = at_drop_all (λ xs. twice_at k (flat_map mac_row (described (take k cs))) (map mac_row (described xs))) cs k c.loop-place-test.false in
    sym (ap (λ o. told (option_map MacTwice o)) (c.loop-place.invariant ∙ end))
