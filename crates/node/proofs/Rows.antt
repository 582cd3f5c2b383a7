-- Whether two lists of rows are the same. Assumes nothing.
use Rattle.std.proofs.Common.{◌≡◌, Bool, true, List, Decides, subst}
use Rattle.std.proofs.lemmas.Bool.Decides.{same_from_decides}
use Rattle.train.specs.Rows.{Row}
use Rattle.runs.specs.Calls.{same_rows}
use Rattle.runs.proofs.Steps.{rows_same, rows_self}

-- what decides whether two lists of rows are equal is the test
pub decided_rows : (b : Bool) (rs qs : List Row) → Decides b (rs ≡ qs) → b ≡ same_rows rs qs
decided_rows b rs qs d = same_from_decides b (same_rows rs qs) d (rows_same rs qs, λ e. subst (λ xs. same_rows rs xs ≡ true) e (rows_self rs))
