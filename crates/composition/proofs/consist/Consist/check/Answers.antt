use Rattle.std.proofs.Common.{◌≡◌, ℕ, ◌≤◌, Bool, true, false, ◌&&◌, eqb, leb, List, map, length, Err, Option, sym, ap, ◌∙◌, arith}
use Rattle.std.proofs.lemmas.List.{length-map}
use Rattle.std.proofs.lemmas.Result.{err_from_is_err_and}
use Rattle.std.proofs.lemmas.Bool.{eqb-true, eqb-false, le-leb, and_from}
use Rattle.report.specs.Masks.{together, unbroken, gapless}
use Rattle.report.specs.Reports.{whole}
use Rattle.composition.specs.declared.consist.Node as node
use Rattle.composition.specs.declared.consist.Consist as consist
use Rattle.composition.specs.declared.fault.ConsistRule.{ConsistRule}
use Rattle.composition.specs.declared.fault.ConsistRule.TheVariants.{NoUuid, NodeCount, Gap, NoneAwake}
use Rattle.composition.specs.Meaning.{node_means, masks_of, nodes_of, consist_means}
use Rattle.composition.specs.Faults.{told, or_else, unless, mask_fault, mac_fault, macs_in, consist_fault}
use Rattle.composition.proofs.Steps.{any_awake, told_none, told_some, few_nodes}
use Rattle.composition.proofs.consist.Consist.check.Goals as goal

abbrev ordered : Bool → Bool → Option ConsistRule → Bool → Bool → Option ConsistRule → Option ConsistRule
ordered named counted masks gapless awake macs =
    or_else (unless named NoUuid)
    (or_else (unless counted NodeCount) (or_else masks (or_else (unless gapless Gap) (or_else (unless awake NoneAwake) macs))))

abbrev count_fits : List node.Node → Bool
count_fits ns = leb 1 (length (map node_means ns)) && leb (length (map node_means ns)) 4

module _ (self : consist.Consist) (ns : List node.Node) (are : ns ≡ nodes_of self) where
  same : told (consist_fault (record { uuid = whole self.uuid; nodes = map node_means ns })) ≡ told (consist_fault (consist_means self).consist)
  same = ap (λ ns. told (consist_fault (record { uuid = whole self.uuid; nodes = map node_means ns }))) are

  counted : false ≡ eqb (length ns) 0 → true ≡ count_fits ns
  counted some =
      let long = length-map ns node_means in
      let few : length ns ≤ 4 = omega (arith, few_nodes self, ap length are) in
      let most = eqb-false (length ns) 0 (sym some) in
      sym (and_from (leb 1 (length (map node_means ns))) (leb (length (map node_means ns)) 4) (le-leb 1 (length (map node_means ns)) (omega arith)) (le-leb (length (map node_means ns)) 4 (omega arith)))

  gaps : (b : Bool) (m : ℕ) → b ≡ unbroken m → m ≡ together (masks_of (nodes_of self)) → b ≡ gapless (masks_of ns)
  gaps b m e f = e ∙ ap unbroken (f ∙ sym (ap (λ ns. together (masks_of ns)) are))

pub returns-then-is_empty : goal.returns-then-is_empty
returns-then-is_empty c =
    let ns = c.nodes-nodes.result.now in
    let self = c.args.self.now in
    let are = c.nodes-nodes.ensures in
    let u = c.if-not-is_valid.ensures in
    let none : length ns ≡ 0 = eqb-true (length ns) 0 (sym c.if-is_empty.ensures) in
    let n : false ≡ count_fits ns = ap (λ k. leb 1 k && leb k 4) (sym (length-map ns node_means ∙ none)) in
    (λ i. told (ordered (u i) (n i) (mask_fault 1 (map node_means ns)) (gapless (masks_of ns)) (leb 1 (length (macs_in (map node_means ns)))) (mac_fault 1 (map node_means ns))))
    ∙ same self ns are

pub returns-in_err-check_masks : goal.returns-in_err-check_masks
returns-in_err-check_masks c =
    let ns = c.nodes-nodes.result.now in
    let self = c.args.self.now in
    let are = c.nodes-nodes.ensures in
    let u = c.if-not-is_valid.ensures in
    let n = counted self ns are c.if-is_empty.ensures in
    let p = err_from_is_err_and c.from_residual.result c.from_residual.ensures.1 in
    let m = sym (told_some (mask_fault 1 (map node_means ns)) _ c.in_err-check_masks.ensures) in
    p.1 ∙ ap Err p.2
    ∙ (λ i. told (ordered (u i) (n i) (m i) (gapless (masks_of ns)) (leb 1 (length (macs_in (map node_means ns)))) (mac_fault 1 (map node_means ns))))
    ∙ same self ns are

pub returns-then-not-is_gapless : goal.returns-then-not-is_gapless
returns-then-not-is_gapless c =
    let ns = c.nodes-nodes.result.now in
    let self = c.args.self.now in
    let are = c.nodes-nodes.ensures in
    let u = c.if-not-is_valid.ensures in
    let n = counted self ns are c.if-is_empty.ensures in
    let m = sym (told_none (mask_fault 1 (map node_means ns)) c.in_ok-check_masks.ensures) in
    let g = gaps self ns are _ c.served.result c.if-not-is_gapless.ensures c.served.ensures in
    (λ i. told (ordered (u i) (n i) (m i) (g i) (leb 1 (length (macs_in (map node_means ns)))) (mac_fault 1 (map node_means ns)))) ∙ same self ns are

pub returns-then-not-is_any_awake : goal.returns-then-not-is_any_awake
returns-then-not-is_any_awake c =
    let ns = c.nodes-nodes.result.now in
    let self = c.args.self.now in
    let are = c.nodes-nodes.ensures in
    let u = c.if-not-is_valid.ensures in
    let n = counted self ns are c.if-is_empty.ensures in
    let m = sym (told_none (mask_fault 1 (map node_means ns)) c.in_ok-check_masks.ensures) in
    let g = gaps self ns are _ c.served.result c.if-not-is_gapless.ensures c.served.ensures in
    let a = c.if-not-is_any_awake.ensures ∙ any_awake ns in
    (λ i. told (ordered (u i) (n i) (m i) (g i) (a i) (mac_fault 1 (map node_means ns)))) ∙ same self ns are

pub returns : goal.returns
returns c =
    let ns = c.nodes-nodes.result.now in
    let self = c.args.self.now in
    let are = c.nodes-nodes.ensures in
    let u = c.if-not-is_valid.ensures in
    let n = counted self ns are c.if-is_empty.ensures in
    let m = sym (told_none (mask_fault 1 (map node_means ns)) c.in_ok-check_masks.ensures) in
    let g = gaps self ns are _ c.served.result c.if-not-is_gapless.ensures c.served.ensures in
    let a = c.if-not-is_any_awake.ensures ∙ any_awake ns in
    c.check_mac_ranges.ensures ∙ (λ i. told (ordered (u i) (n i) (m i) (g i) (a i) (mac_fault 1 (map node_means ns)))) ∙ same self ns are
