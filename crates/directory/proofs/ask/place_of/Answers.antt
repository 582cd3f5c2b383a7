use Rattle.std.proofs.Common.{◌≡◌, ℕ, ◌==◌, List, Some, None, Option, find, option_map, sym, ap, ◌∙◌, arith}
use Rattle.directory.specs.declared.row.Row as code
use Rattle.directory.specs.Meaning.{row_means, rows_mean}
use Rattle.directory.specs.Asked.{position_in, place_of}
use Rattle.directory.specs.Keys.{place_told}
use Rattle.train.specs.Rows.{Row}
use Rattle.directory.proofs.Searches.{row_meant, found_some}
use Rattle.directory.proofs.ask.place_of.Goals as goal

-- a node's row, of those found by its number
module _ (rows : List code.Row) (number : ℕ) (o : Option code.Row) (found : o ≡ find (λ q. q.node == number) rows) where
  abbrev place : Row → ℕ × ℕ
  place r = (r.uuid, position_in (rows_mean rows) r)

  meant : option_map row_means o ≡ find (λ q. q.node == number) (rows_mean rows)
  meant = ap (option_map row_means) found ∙ row_meant number rows

  placed : option_map (λ (r : Row). place r) (option_map row_means o) ≡ place_of number (rows_mean rows)
  placed = ap (option_map (λ (r : Row). place r)) meant

pub returns-in_err-row : goal.returns-in_err-row
returns-in_err-row c =
    ap place_told c.from_residual.ensures ∙ placed c.args.rows.now c.args.number None (sym c.in_err-row.was ∙ c.row_of.ensures)

pub overflow_cast-result : goal.overflow_cast-result
overflow_cast-result c =
    let rows = c.args.rows.now in
    let r = c.in_ok-row.row in
    let there = meant rows c.args.number (Some r) (sym c.in_ok-row.was ∙ c.row_of.ensures) in
    let small = c.position_of.ensures.small c.requires (found_some (λ q. q.node == c.args.number) rows 0 (row_means r) c.requires there) in
    omega arith

pub returns : goal.returns
returns c =
    let rows = c.args.rows.now in
    let r = c.in_ok-row.row in
    let whole_place = placed rows c.args.number (Some r) (sym c.in_ok-row.was ∙ c.row_of.ensures) in
    rw c.position_of.ensures.position whole_place
