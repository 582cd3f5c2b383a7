use Rattle.std.proofs.Common.{◌+◌, ◌<◌, ◌≤◌, length, drop, None, sym, ap, ◌∙◌, arith}
use Rattle.std.specs.Option.{option_map}
use Rattle.std.proofs.lemmas.List.{at_drop_all, length-map}
use Rattle.composition.specs.Meaning.{node_means, nodes_of, consist_means}
use Rattle.composition.specs.Standing.{standing, awake_in, first_awake}
use Rattle.composition.proofs.Standing.{length_standing, step_on, found_awake}
use Rattle.composition.proofs.Steps.{asleep}
use Rattle.composition.proofs.reports.next_awake.Goals as goal

pub met-placed-requires : goal.met-placed-requires
met-placed-requires c = omega (arith, ap length c.nodes-i-end.ensures)

pub returns-then-is_some : goal.returns-then-is_some
returns-then-is_some c =
    let s = consist_means c.args.consist.now in
    let ns = nodes_of c.args.consist.now in
    let i = c.loop-i.i in
    let placed = c.met-placed.result in
    let is = c.met-placed.ensures in
    let o = option_map (λ m. m.0) placed.node.mac in
    let inside : i < length (standing s) = omega (arith, length_standing s, length-map ns node_means, ap length c.nodes-i-end.ensures) in
    found_awake s placed.position placed.node.mac (awake_in s (drop (i + 1) (standing s))) c.if-is_some.ensures
    ∙ sym (ap first_awake (c.loop-i.invariant ∙ step_on s i inside placed.position o (sym (ap (λ x. x.0) is)) (sym (ap (λ x. x.1.mac) is))))

pub loop-i-preserved : goal.loop-i-preserved
loop-i-preserved c =
    let s = consist_means c.args.consist.now in
    let ns = nodes_of c.args.consist.now in
    let i = c.loop-i.i in
    let placed = c.met-placed.result in
    let is = c.met-placed.ensures in
    let inside : i < length (standing s) = omega (arith, length_standing s, length-map ns node_means, ap length c.nodes-i-end.ensures) in
    c.loop-i.invariant ∙ step_on s i inside placed.position None (sym (ap (λ x. x.0) is)) (sym (ap (λ x. x.1.mac) is) ∙ asleep placed.node.mac c.if-is_some.ensures)

pub returns : goal.returns
returns c =
    let s = consist_means c.args.consist.now in
    let ns = nodes_of c.args.consist.now in
    let i = c.loop-i.i in
    let past : length (standing s) ≤ i = omega (arith, length_standing s, length-map ns node_means, ap length c.nodes-i-end.ensures) in
    sym (ap first_awake (c.loop-i.invariant ∙ at_drop_all (awake_in s) (standing s) i past))
