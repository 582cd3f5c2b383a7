-- What storing answers and leaves: `order` compares keys, `under` is the key of a record. Assumes nothing.
use Rattle.std.specs.Prelude.{ℕ, Bool, false, cond, List, length, Ok, Err, Result, nat_le, slice_set}
use Rattle.std.specs.declared.cmp.Ordering.{Ordering}
use Rattle.std.specs.List.{insert}
use Rattle.keyed.specs.declared.store.Full.{Full}
use Rattle.keyed.specs.Find.{place_of}
use Rattle.keyed.specs.Table.{written}

-- the records with r in place of the one under its key, or else put in where it belongs
abbrev pub stored : {R K : Type 0} → (K → K → Ordering) → (R → K) → R → List R → List R
stored order under r xs = elim (place_of order under (under r) xs) [ Ok i ↦ slice_set xs i r | Err i ↦ insert xs i r ]

-- r's key is new, and every place is taken
abbrev pub refused : {R K : Type 0} → (K → K → Ordering) → (R → K) → R → ℕ → List R → Bool
refused order under r places xs = elim (place_of order under (under r) xs) [ Ok i ↦ false | Err i ↦ nat_le places (length xs) ]

-- the refusal
abbrev pub full : Full
full = record {}

-- `Full`, or how many records there are then
abbrev pub store_answer : {R K : Type 0} → (K → K → Ordering) → (R → K) → R → ℕ → List R → Result ℕ Full
store_answer order under r places xs = cond (refused order under r places xs) (Err full) (Ok (length (stored order under r xs)))

-- the records after
abbrev pub store_keeps : {R K : Type 0} → (K → K → Ordering) → (R → K) → R → ℕ → List R → List R
store_keeps order under r places xs = cond (refused order under r places xs) xs (stored order under r xs)

-- the slots after, of which xs were the records
abbrev pub store_leaves : {R K : Type 0} → (K → K → Ordering) → (R → K) → R → List R → List R → List R
store_leaves order under r slots xs = cond (refused order under r (length slots) xs) slots (written (stored order under r xs) slots)
