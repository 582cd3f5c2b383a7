use Rattle.std.proofs.Common.{◌≡◌, ℕ, ◌+◌, ◌<◌, ◌≤◌, min, Bool, true, false, leb, map, length, get_or, drop, Result, sym, ap, ◌∙◌, arith}
use Rattle.std.proofs.lemmas.List.{at_drop_more, at_drop_all, length-map}
use Rattle.std.proofs.lemmas.Bool.{le-leb, lt-leb}
use Rattle.train.specs.Rules.{node_count, network_count, bit_count, networks, set_bits}
use Rattle.report.specs.Masks.{together}
use Rattle.composition.specs.declared.fault.LineFault.{LineFault}
use Rattle.composition.specs.declared.fault.LineFault.TheVariants.{Nodes, Networks, Bits}
use Rattle.composition.specs.Meaning.{node_means, masks_of, nodes_of, described}
use Rattle.composition.specs.Faults.{told, or_else, unless}
use Rattle.report.proofs.Masks.{together_padded, set_bits_padded}
use Rattle.composition.proofs.Steps.{no_consist, few_nodes}
use Rattle.composition.proofs.rules.check_limits.Goals as goal

-- a sum that stops at the most that fits
more : (top sum next own rest all rest' : ℕ) → min (sum + rest) top ≡ min all top → next ≡ min (sum + own) top → rest ≡ own + rest' → min (next + rest') top ≡ min all top
more top sum next own rest all rest' e f g = omega arith

pub loop-consist-preserved : goal.loop-consist-preserved
loop-consist-preserved c =
    let k = c.loop-consist.consist-index in
    let cs = c.args.consists.now in
    let h = c.loop-consist-test.true in
    let d = get_or cs k no_consist in
    let ns = nodes_of d in
    let ms = masks_of ns in
    let inv = c.loop-consist.invariant in
    let long : length ms ≡ length ns = length-map (map node_means ns) (λ n. n.mask) ∙ length-map ns node_means in
    let few : length ms ≤ 4 = omega (arith, few_nodes d, long) in
    let masks = c.masks-masks.ensures in
    let four : length c.masks-masks.result ≡ 4 = ap length masks in
    let own : length c.nodes.result.now ≡ length (map node_means ns) = ap length c.nodes.ensures ∙ sym (length-map ns node_means) in
    let served : c.network_count.result ≡ length (networks (together ms)) = c.network_count.ensures.count ∙ ap (λ ms. length (networks (together ms))) masks ∙ ap (λ m. length (networks m)) (together_padded ms few) in
    let set : set_bits c.masks-masks.result ≡ set_bits ms = ap set_bits masks ∙ set_bits_padded ms few in
    let marks : c.bit_count.result ≡ set_bits ms = omega (arith, c.bit_count.ensures.count, c.bit_count.ensures.few, four, set) in (
      more _ _ _ _ _ _ _ inv.0 c.saturating_add-nodes.ensures (at_drop_more (λ xs. node_count (described xs)) cs k no_consist h ∙ ap (λ n. n + node_count (described (drop (k + 1) cs))) (sym own)),
      more _ _ _ _ _ _ _ inv.1 c.saturating_add-networks.ensures (at_drop_more (λ xs. network_count (described xs)) cs k no_consist h ∙ ap (λ n. n + network_count (described (drop (k + 1) cs))) (sym served)),
      more _ _ _ _ _ _ _ inv.2 c.saturating_add-bits.ensures (at_drop_more (λ xs. bit_count (described xs)) cs k no_consist h ∙ ap (λ n. n + bit_count (described (drop (k + 1) cs))) (sym marks)),
    )

-- what the sums say of the limits where they have stopped
module _ (top sum all rest most : ℕ) (inv : min (sum + rest) top ≡ min all top) (end : rest ≡ 0) (small : most < top) where
  kept : sum ≤ most → true ≡ leb all most
  kept h = sym (le-leb all most (omega arith))

  passed : most < sum → false ≡ leb all most
  passed h = sym (lt-leb all most (omega arith))

abbrev limits : Bool → Bool → Bool → Result (Unit {0}) LineFault
limits nodes networked bits = told (or_else (unless nodes Nodes) (or_else (unless networked Networks) (unless bits Bits)))

pub returns-then-networks-gt-NETWORKS : goal.returns-then-networks-gt-NETWORKS
returns-then-networks-gt-NETWORKS c =
    let inv = c.loop-consist.invariant in
    let cs = c.args.consists.now in
    let k = c.loop-consist.consist-index in
    let end = c.loop-consist-test.false in
    let nodes = kept _ _ _ _ 63 inv.0 (at_drop_all (λ xs. node_count (described xs)) cs k end) (omega arith) (omega arith) in
    let networked = passed _ _ _ _ 63 inv.1 (at_drop_all (λ xs. network_count (described xs)) cs k end) (omega arith) (omega arith) in
    (λ i. limits (nodes i) (networked i) (leb (bit_count (described cs)) 128))

pub returns-then-bits-gt-BITS : goal.returns-then-bits-gt-BITS
returns-then-bits-gt-BITS c =
    let inv = c.loop-consist.invariant in
    let cs = c.args.consists.now in
    let k = c.loop-consist.consist-index in
    let end = c.loop-consist-test.false in
    let nodes = kept _ _ _ _ 63 inv.0 (at_drop_all (λ xs. node_count (described xs)) cs k end) (omega arith) (omega arith) in
    let networked = kept _ _ _ _ 63 inv.1 (at_drop_all (λ xs. network_count (described xs)) cs k end) (omega arith) (omega arith) in
    let bits = passed _ _ _ _ 128 inv.2 (at_drop_all (λ xs. bit_count (described xs)) cs k end) (omega arith) (omega arith) in
    (λ i. limits (nodes i) (networked i) (bits i))

pub returns-else-bits-gt-BITS : goal.returns-else-bits-gt-BITS
returns-else-bits-gt-BITS c =
    let inv = c.loop-consist.invariant in
    let cs = c.args.consists.now in
    let k = c.loop-consist.consist-index in
    let end = c.loop-consist-test.false in
    let nodes = kept _ _ _ _ 63 inv.0 (at_drop_all (λ xs. node_count (described xs)) cs k end) (omega arith) (omega arith) in
    let networked = kept _ _ _ _ 63 inv.1 (at_drop_all (λ xs. network_count (described xs)) cs k end) (omega arith) (omega arith) in
    let bits = kept _ _ _ _ 128 inv.2 (at_drop_all (λ xs. bit_count (described xs)) cs k end) (omega arith) (omega arith) in
    (λ i. limits (nodes i) (networked i) (bits i))
