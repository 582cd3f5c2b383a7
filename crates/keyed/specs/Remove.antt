-- What removing leaves: `order` compares keys, `under` is the key of a record. Assumes nothing.
use Rattle.std.specs.Prelude.{List, Ok, Err}
use Rattle.std.specs.declared.cmp.Ordering.{Ordering}
use Rattle.std.specs.List.{remove as removed_at}
use Rattle.keyed.specs.Find.{place_of}
use Rattle.keyed.specs.Table.{written}

-- the records without the one under k
abbrev pub removed : {R K : Type 0} → (K → K → Ordering) → (R → K) → K → List R → List R
removed order under k xs = elim (place_of order under k xs) [ Ok i ↦ removed_at xs i | Err i ↦ xs ]

-- the slots after, of which xs were the records
abbrev pub remove_leaves : {R K : Type 0} → (K → K → Ordering) → (R → K) → K → List R → List R → List R
remove_leaves order under k slots xs = elim (place_of order under k xs) [ Ok i ↦ written (removed_at xs i) slots | Err i ↦ slots ]
