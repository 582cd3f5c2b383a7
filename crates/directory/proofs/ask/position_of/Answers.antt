use Rattle.std.proofs.Common.{◌≡◌, ℕ, ◌==◌, ◌≤◌, min, max, List, map, filter, fold, ap, ◌∙◌, arith}
use Rattle.report.specs.Reports.{whole}
use Rattle.directory.specs.declared.row.Row.{Row}
use Rattle.directory.specs.Meaning.{rows_mean}
use Rattle.directory.specs.Asked.{nodes_of, lowest, highest}
use Rattle.directory.proofs.Climbs.{highest_above}
use Rattle.directory.proofs.Searches.{lowest_below, lowest_some, spanned}
use Rattle.directory.proofs.ask.position_of.Goals as goal

module _ (rows : List Row) (r : Row) (s : ℕ × ℕ)
    (e : s ≡ fold (λ s n. (min s.0 n, max s.1 n)) (r.node, r.node) (map (λ r. r.node) (filter (λ q. whole q.uuid == whole r.uuid) rows))) where
  low_is : s.0 ≡ lowest r.node (nodes_of (whole r.uuid) (rows_mean rows))
  low_is = ap (λ s. s.0) (e ∙ spanned (whole r.uuid) r.node rows)

  high_is : s.1 ≡ highest r.node (nodes_of (whole r.uuid) (rows_mean rows))
  high_is = ap (λ s. s.1) (e ∙ spanned (whole r.uuid) r.node rows)

  low_below : s.0 ≤ r.node
  low_below = omega (arith, low_is, lowest_below r.node (nodes_of (whole r.uuid) (rows_mean rows)))

  high_above : r.node ≤ s.1
  high_above = omega (arith, high_is, highest_above r.node (nodes_of (whole r.uuid) (rows_mean rows)))

pub overflow_sub-row : goal.overflow_sub-row
overflow_sub-row c = low_below c.args.rows.now c.args.row.now c.span-low.result c.span-low.ensures

pub overflow_sub-high : goal.overflow_sub-high
overflow_sub-high c = high_above c.args.rows.now c.args.row.now c.span-low.result c.span-low.ensures

pub returns-in-Forward : goal.returns-in-Forward
returns-in-Forward c =
    let rows = c.args.rows.now in
    let r = c.args.row.now in
    let low = low_is rows r c.span-low.result c.span-low.ensures in
    record {
      position = grind arith;
      small = λ run some. let first = lowest_some (whole r.uuid) r.node 0 rows run some in omega arith;
    }

pub returns-in-Turned : goal.returns-in-Turned
returns-in-Turned c =
    let rows = c.args.rows.now in
    let r = c.args.row.now in
    let high = high_is rows r c.span-low.result c.span-low.ensures in
    record {
      position = grind arith;
      small = λ run some. omega arith;
    }
