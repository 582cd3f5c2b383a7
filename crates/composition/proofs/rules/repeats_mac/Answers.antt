use Rattle.std.proofs.Common.{◌≡◌, ◌-◌, true, ◌||◌, ◌++◌, map, take, sym, ap, ◌∙◌}
use Rattle.std.specs.Option.{option_map}
use Rattle.std.specs.List.{flat_map}
use Rattle.std.proofs.lemmas.List.{at_drop_all}
use Rattle.std.proofs.lemmas.Bool.{or_left, or_right}
use Rattle.composition.specs.Meaning.{node_means, described}
use Rattle.composition.specs.Faults.{among, macs_in, mac_row, repeats}
use Rattle.composition.proofs.Steps.{in_consists, in_nodes, asleep_on, awake_on, stands_before}
use Rattle.composition.proofs.rules.repeats_mac.Goals as goal
use Rattle.composition.proofs.rules.repeats_mac.Goals.{then-is_in_consists-via-then-is_in_consists, then-is_in_consists-via-else-is_in_consists+then-is_in_nodes, in-Some+else-is_in_consists+else-is_in_nodes, in_default}

pub returns-then-is_in_consists : goal.returns-then-is_in_consists
returns-then-is_in_consists c =
    let i = c.loop-i.i in
    let ns = c.args.nodes.now in
    let seen = flat_map mac_row (described c.args.before.now) in
    let m = c.in-Some.mac.0 in
    let is = ap (option_map (λ m. m.0)) c.in-Some.is in
    let own = among m (macs_in (map node_means (take (i - 0) ns))) in
    let before : (among m seen || own) ≡ true =
    elim c.then-is_in_consists.branch [
      | then-is_in_consists-via-then-is_in_consists w ↦ or_left (among m seen) own (sym (w.if-is_in_consists.ensures ∙ in_consists m c.args.before.now))
      | then-is_in_consists-via-else-is_in_consists+then-is_in_nodes w ↦ or_right (among m seen) own (sym (w.if-is_in_nodes.ensures ∙ in_nodes m (take (i - 0) ns)))
    ]
    in
    sym (c.loop-i.invariant ∙ stands_before seen ns i c.loop-i-test.true m is before)

pub loop-i-preserved : goal.loop-i-preserved
loop-i-preserved c =
    let i = c.loop-i.i in
    let ns = c.args.nodes.now in
    let seen = flat_map mac_row (described c.args.before.now) in
    elim c.match-node.branch [
      | in-Some+else-is_in_consists+else-is_in_nodes w ↦
          c.loop-i.invariant ∙ awake_on seen ns i c.loop-i-test.true w.in-Some.mac.0 (ap (option_map (λ m. m.0)) w.in-Some.is) (sym (w.if-is_in_consists.ensures ∙ in_consists w.in-Some.mac.0 c.args.before.now)) (sym (w.if-is_in_nodes.ensures ∙ in_nodes w.in-Some.mac.0 (take (i - 0) ns)))
      | in_default w ↦ c.loop-i.invariant ∙ asleep_on seen ns i c.loop-i-test.true (ap (option_map (λ m. m.0)) w.in_default.is)
    ]

pub returns : goal.returns
returns c =
    let i = c.loop-i.i in
    let ns = c.args.nodes.now in
    let seen = flat_map mac_row (described c.args.before.now) in
    sym (c.loop-i.invariant ∙ at_drop_all (λ xs. repeats (seen ++ macs_in (map node_means (take i ns))) (macs_in (map node_means xs))) ns i c.loop-i-test.false)
