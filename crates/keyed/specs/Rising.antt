-- Records in rising key order: `order` compares keys, `under` is the key of a record. Assumes nothing.
use Rattle.std.specs.Prelude.{◌≡◌, List, [], ◌∷◌}
use Rattle.std.specs.declared.cmp.Ordering.TheVariants.{Less}
use Rattle.std.specs.declared.cmp.Ordering.{Ordering}

-- k is less than the key of each record
abbrev pub Above : {R K : Type 0} → (K → K → Ordering) → (R → K) → K → List R → Type 0
Above order under k [] = Unit {0}
Above order under k (x ∷ xs) = (order k (under x) ≡ Less) × Above order under k xs

-- each record's key is less than that of each later one
abbrev pub Rising : {R K : Type 0} → (K → K → Ordering) → (R → K) → List R → Type 0
Rising order under [] = Unit {0}
Rising order under (x ∷ xs) = Above order under (under x) xs × Rising order under xs
