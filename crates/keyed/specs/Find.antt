-- What finding answers: `order` compares keys, `under` is the key of a record. Assumes nothing.
use Rattle.std.specs.Prelude.{ℕ, suc, ◌<◌, ◌≤◌, List, [], ◌∷◌, None, Option, Result, Ok, Err}
use Rattle.std.specs.declared.cmp.Ordering.TheVariants.{Less, Equal, Greater}
use Rattle.std.specs.declared.cmp.Ordering.{Ordering}
use Rattle.std.specs.List.{slice_get}

-- where the record under a key stands, or else before which place it belongs
abbrev pub Place : Type 0
Place = Result ℕ ℕ

-- the same place where one more record comes first
abbrev pub later : Place → Place
later (Ok i) = Ok (suc i)
later (Err i) = Err (suc i)

-- of the key k: the first record whose key is not less decides
abbrev pub place_of : {R K : Type 0} → (K → K → Ordering) → (R → K) → K → List R → Place
place_of order under k [] = Err 0
place_of order under k (x ∷ xs) = elim (order (under x) k) [ Less ↦ later (place_of order under k xs) | Equal ↦ Ok 0 | Greater ↦ Err 0 ]

-- the place is that of one of n records, or their end
abbrev pub Within : ℕ → Place → Type 0
Within n (Ok i) = i < n
Within n (Err i) = i ≤ n

-- the record under k
abbrev pub found : {R K : Type 0} → (K → K → Ordering) → (R → K) → K → List R → Option R
found order under k xs = elim (place_of order under k xs) [ Ok i ↦ slice_get xs i | Err i ↦ None ]
