use Rattle.std.proofs.Common.{◌≡◌, ℕ, ◌+◌, ◌<◌, ◌≤◌, List, ◌++◌, length, get_or, drop, sym, ap, ◌∙◌, arith}
use Rattle.std.specs.List.{flat_map}
use Rattle.std.proofs.lemmas.List.{at_drop_more, at_drop_all, append_assoc, append-nil, length-map}
use Rattle.train.specs.Rules.{node_count}
use Rattle.train.specs.Rows.{reading}
use Rattle.train.proofs.Totals.{total_reading}
use Rattle.composition.specs.declared.consist.Consist as consist
use Rattle.composition.specs.Meaning.{node_means, nodes_of, consist_means, described}
use Rattle.composition.specs.Gathering.{nowhere, met_of, nodes_mean}
use Rattle.composition.proofs.Gathering.{length_reading}
use Rattle.composition.proofs.reading.met_nodes.Goals as goal

-- the nodes of the consist at a place of the reading, and those behind
ahead : (cs : List consist.Consist) (k : ℕ) (x : consist.Consist) → k < length cs → consist_means x ≡ get_or (reading (described cs)) k nowhere
    → node_count (drop k (reading (described cs))) ≡ length (nodes_of x) + node_count (drop (k + 1) (reading (described cs)))
ahead cs k x h is =
    let read = reading (described cs) in
    let inside : k < length read = omega (arith, length_reading (described cs), length-map cs consist_means) in
    let own = ap (λ s. length s.consist.nodes) is in
    at_drop_more node_count read k nowhere inside ∙ omega (arith, own, length-map (nodes_of x) node_means)

pub put_nodes-requires : goal.put_nodes-requires
put_nodes-requires c =
    let cs = c.args.consists.now in
    let here = ahead cs c.loop-place.place c.read_at.result c.loop-place-test.true c.read_at.ensures in
    let all = total_reading (λ c. length c.nodes) (described cs) in
    omega (arith, here, c.loop-place.invariant.1, c.requires)

pub loop-place-preserved : goal.loop-place-preserved
loop-place-preserved c =
    let cs = c.args.consists.now in
    let read = reading (described cs) in
    let k = c.loop-place.place in
    let x = c.read_at.result in
    let is = c.read_at.ensures in
    let inv = c.loop-place.invariant in
    let before = c.loop-place.nodes.items in
    let rest = flat_map met_of (drop (k + 1) read) in
    let here = ahead cs k x c.loop-place-test.true is in
    let inside : k < length read = omega (arith, length_reading (described cs), length-map cs consist_means) in (
      ap (λ xs. xs ++ rest) c.put_nodes.ensures.met
          ∙ append_assoc (nodes_mean before) (met_of (consist_means x)) rest ∙ ap (λ t. nodes_mean before ++ (met_of t ++ rest)) is
          ∙ ap (λ xs. nodes_mean before ++ xs) (sym (at_drop_more (flat_map met_of) read k nowhere inside)) ∙ inv.0,
      omega (arith, c.put_nodes.ensures.len, here, inv.1),
    )

pub returns : goal.returns
returns c =
    let cs = c.args.consists.now in
    let l = described cs in
    let read = reading l in
    let k = c.loop-place.place in
    let past : length read ≤ k = omega (arith, length_reading l, length-map cs consist_means) in
    sym (append-nil (nodes_mean c.loop-place.nodes.items)) ∙ ap (λ xs. nodes_mean c.loop-place.nodes.items ++ xs) (sym (at_drop_all (flat_map met_of) read k past)) ∙ c.loop-place.invariant.0
