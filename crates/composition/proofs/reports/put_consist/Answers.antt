use Rattle.std.proofs.Common.{◌≡◌, ℕ, ◌+◌, ◌<◌, ◌≤◌, List, ◌∷◌, ◌++◌, map, length, get_or, take, drop, Some, None, Option, sym, refl, ap, ◌∙◌, arith}
use Rattle.std.specs.Option.{option_map}
use Rattle.std.proofs.lemmas.List.{at_drop_all, append-nil, length-map}
use Rattle.report.specs.declared.Mac.{Mac}
use Rattle.train.specs.Truth.{report}
use Rattle.composition.specs.declared.consist.Node as node
use Rattle.composition.specs.declared.consist.Consist as consist
use Rattle.composition.specs.declared.consist.Placed as placed
use Rattle.composition.specs.Meaning.{node_means, nodes_of, consist_means, placed_means}
use Rattle.composition.specs.Standing.{standing, nobody, awake_node, woken, awake_in, last_mac, reports_between}
use Rattle.composition.specs.Sending.{coded}
use Rattle.composition.proofs.Sending.{write_on, back_on}
use Rattle.composition.proofs.Standing.{standing_awake, length_standing, step_on, next_is}
use Rattle.composition.proofs.reports.put_consist.Goals as goal
use Rattle.composition.proofs.reports.put_consist.Goals.{in-Some, in_default}

-- the awake nodes from a step on, at a node that is awake or asleep
on : (c : consist.Consist) (ns : List node.Node) (k : ℕ) (x : placed.Placed) (o : Option Mac) → ns ≡ nodes_of c → k < length ns
    → placed_means x ≡ get_or (standing (consist_means c)) k nobody → x.node.mac ≡ o
    → awake_in (consist_means c) (drop k (standing (consist_means c)))
    ≡ woken (consist_means c) x.position (option_map (λ m. m.0) o) ++ awake_in (consist_means c) (drop (k + 1) (standing (consist_means c)))
on c ns k x o are h is e =
    let s = consist_means c in
    let inside : k < length (standing s) = omega (arith, length_standing s, length-map (nodes_of c) node_means, ap length are) in
    step_on s k inside x.position (option_map (λ m. m.0) o) (sym (ap (λ y. y.0) is)) (sym (ap (λ y. y.1.mac) is) ∙ ap (option_map (λ m. m.0)) e)

pub loop-step-init : goal.loop-step-init
loop-step-init c =
    let s = consist_means c.args.consist.now in
    let e = standing_awake s in (
      ap (λ xs. take c.args.at c.args.out.now ++ map coded (reports_between c.args.between.left.0 xs c.args.between.right.0)) e,
      ap (last_mac c.args.between.left.0) e,
      ap (λ xs. c.args.at + length xs) e,
      refl,
    )

pub bounds-out-end : goal.bounds-out-end
bounds-out-end c =
    let step = on c.args.consist.now c.nodes-step-end.result.now c.loop-step.step c.met-placed.result (Some c.in-Some.mac) c.nodes-step-end.ensures c.loop-step-test.true c.met-placed.ensures c.in-Some.is in
    omega (arith, ap length step, c.loop-step.invariant.2, c.loop-step.auto.out, c.requires)

pub loop-step-preserved : goal.loop-step-preserved
loop-step-preserved c =
    let s = consist_means c.args.consist.now in
    let k = c.loop-step.step in
    let out = c.loop-step.out in
    let end = c.loop-step.end in
    let last = c.loop-step.last.0 in
    let after = c.args.between.right.0 in
    let rest = awake_in s (drop (k + 1) (standing s)) in
    let inv = c.loop-step.invariant in
    elim c.match-placed.branch [
      | in-Some w ↦
          let step = on c.args.consist.now c.nodes-step-end.result.now k c.met-placed.result (Some w.in-Some.mac) c.nodes-step-end.ensures c.loop-step-test.true c.met-placed.ensures w.in-Some.is in
          let inside : end < length out = omega (arith, ap length step, inv.2, c.loop-step.auto.out, c.requires) in
          let a = awake_node s c.met-placed.result.position w.in-Some.mac.0 in
          let v = w.report_of.result in
          let right = ap (λ m. m.0) w.unwrap_or-right.ensures ∙ next_is w.next_awake.result rest c.args.between.right w.next_awake.ensures in
          let v-is = w.report_of.ensures ∙ ap (λ r. coded (report last a r)) right in
          let tail = map coded (reports_between w.in-Some.mac.0 rest after) in (
            (λ i. take (w.end-is i) (w.out-is i) ++ map coded (reports_between (w.last-is i).0 rest after)) ∙ write_on out c.args.out.now end v tail inside
                ∙ ap (λ x. take end out ++ x ∷ tail) v-is ∙ sym (ap (λ xs. take end out ++ map coded (reports_between last xs after)) step) ∙ inv.0,
            ap (λ m. last_mac m.0 rest) w.last-is ∙ sym (ap (last_mac last) step) ∙ inv.1,
            omega (arith, w.end-is, ap length step, inv.2),
            (λ i. drop (w.end-is i) (w.out-is i)) ∙ back_on out c.args.out.now end v inv.3 ∙ ap (λ n. drop n c.args.out.now) (sym w.end-is),
          )
      | in_default w ↦
          let step = on c.args.consist.now c.nodes-step-end.result.now k c.met-placed.result None c.nodes-step-end.ensures c.loop-step-test.true c.met-placed.ensures w.in_default.is in (
            (λ i. take (w.end-is i) (w.out-is i) ++ map coded (reports_between (w.last-is i).0 rest after))
                ∙ sym (ap (λ xs. take end out ++ map coded (reports_between last xs after)) step) ∙ inv.0,
            ap (λ m. last_mac m.0 rest) w.last-is ∙ sym (ap (last_mac last) step) ∙ inv.1,
            omega (arith, w.end-is, ap length step, inv.2),
            (λ i. drop (w.end-is i) (w.out-is i)) ∙ inv.3 ∙ ap (λ n. drop n c.args.out.now) (sym w.end-is),
          )
    ]

pub returns : goal.returns
returns c =
    let s = consist_means c.args.consist.now in
    let ns = nodes_of c.args.consist.now in
    let k = c.loop-step.step in
    let out = c.loop-step.out in
    let end = c.loop-step.end in
    let last = c.loop-step.last.0 in
    let inv = c.loop-step.invariant in
    let past : length (standing s) ≤ k = omega (arith, length_standing s, length-map ns node_means, ap length c.nodes-step-end.ensures) in
    let none = at_drop_all (awake_in s) (standing s) k past in
    record {
      front = sym (append-nil (take end out)) ∙ sym (ap (λ xs. take end out ++ map coded (reports_between last xs c.args.between.right.0)) none) ∙ inv.0;
      back = inv.3;
      ends = omega (arith, inv.2, ap length none);
      lasts = sym (ap (last_mac last) none) ∙ inv.1;
    }
