-- Rising records. Assumes that the order is total.
use Rattle.std.proofs.Common.{◌≡◌, ℕ, zero, suc, ◌<◌, List, [], ◌∷◌, length, get_or, Some, None, Ordering, Less, arith}
use Rattle.keyed.specs.Orders.{Total}
use Rattle.keyed.specs.Rising.{Above, Rising}
use Rattle.keyed.specs.Find.{found}

module _ {R K : Type 0} (order : K → K → Ordering) (under : R → K) (laws : Total order) where
  pub above_carries : (a b : K) (xs : List R) → order a b ≡ Less → Above order under b xs → Above order under a xs
  above_carries a b [] e h = tt
  above_carries a b (x ∷ xs) e h = (laws.carries a b (under x) e h.0, above_carries a b xs e h.1)

  above_at : (k : K) (xs : List R) (i : ℕ) (d : R) → Above order under k xs → i < length xs → order k (under (get_or xs i d)) ≡ Less
  above_at k [] i d h l = let z : ⊥ = omega arith in absurd z
  above_at k (x ∷ xs) zero d h l = h.0
  above_at k (x ∷ xs) (suc i) d h l = above_at k xs i d h.1 (omega arith)

  -- a key that is less than each is not found
  pub found_above : (k : K) (xs : List R) → Above order under k xs → found order under k xs ≡ None
  found_above k [] h = grind arith
  found_above k (x ∷ xs) h = let a = h.0 in grind (arith, laws.exchanged k (under x))

  pub each_found : (xs : List R) (i : ℕ) (d : R) → Rising order under xs → i < length xs → found order under (under (get_or xs i d)) xs ≡ Some (get_or xs i d)
  each_found [] i d h l = let z : ⊥ = omega arith in absurd z
  each_found (x ∷ xs) zero d h l = grind (arith, laws.itself (under x))
  each_found (x ∷ xs) (suc i) d h l =
      let below : i < length xs = omega arith in
      let less = above_at (under x) xs i d h.0 below in
      let rest = each_found xs i d h.1 below in
      grind arith

  pub each_key_once : (xs : List R) (i j : ℕ) (d : R) → Rising order under xs → i < length xs → j < length xs → under (get_or xs i d) ≡ under (get_or xs j d) → i ≡ j
  each_key_once [] i j d h l m e = let z : ⊥ = omega arith in absurd z
  each_key_once (x ∷ xs) zero zero d h l m e = omega arith
  each_key_once (x ∷ xs) zero (suc j) d h l m e = let less = above_at (under x) xs j d h.0 (omega arith) in grind (arith, laws.itself)
  each_key_once (x ∷ xs) (suc i) zero d h l m e = let less = above_at (under x) xs i d h.0 (omega arith) in grind (arith, laws.itself)
  each_key_once (x ∷ xs) (suc i) (suc j) d h l m e = let same = each_key_once xs i j d h.1 (omega arith) (omega arith) e in omega arith
