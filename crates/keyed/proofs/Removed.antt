-- The records after removing. Assumes nothing, but where it takes laws that the order is total.
use Rattle.std.proofs.Common.{◌≡◌, ℕ, ◌≢◌, List, [], ◌∷◌, length, take, None, Ordering, Less, Equal, Greater, subst, arith}
use Rattle.keyed.specs.Orders.{Total}
use Rattle.keyed.specs.Rising.{Above, Rising}
use Rattle.keyed.specs.Find.{found}
use Rattle.keyed.specs.Remove.{removed, remove_leaves}
use Rattle.keyed.proofs.Live.{take_live, take_written}
use Rattle.keyed.proofs.Rising.{above_carries, found_above}

module _ {R K : Type 0} (order : K → K → Ordering) (under : R → K) where
  removed_cons : (k : K) (x : R) (xs : List R) → elim (order (under x) k) [ Less ↦ x ∷ removed order under k xs | Equal ↦ xs | Greater ↦ x ∷ xs ] ≡ removed order under k (x ∷ xs)
  removed_cons k x xs = grind arith

  above_removed : (a k : K) (xs : List R) → Above order under a xs → Above order under a (removed order under k xs)
  above_removed a k [] h = tt
  above_removed a k (x ∷ xs) h =
      subst (Above order under a) (removed_cons k x xs)
      (elim (order (under x) k) as (λ o. Above order under a (elim o [ Less ↦ x ∷ removed order under k xs | Equal ↦ xs | Greater ↦ x ∷ xs ]))
      [ Less ↦ (h.0, above_removed a k xs h.1) | Equal ↦ h.1 | Greater ↦ h ])

  pub remove_rises : (k : K) (xs : List R) → Rising order under xs → Rising order under (removed order under k xs)
  remove_rises k [] h = tt
  remove_rises k (x ∷ xs) h =
      subst (Rising order under) (removed_cons k x xs)
      (elim (order (under x) k) as (λ o. Rising order under (elim o [ Less ↦ x ∷ removed order under k xs | Equal ↦ xs | Greater ↦ x ∷ xs ]))
      [ Less ↦ (above_removed (under x) k xs h.0, remove_rises k xs h.1) | Equal ↦ h.1 | Greater ↦ h ])

  -- the records at the front of the slots after a call of `remove`
  pub remove_live : (k : K) (slots : List R) (len left : ℕ) (after : List R) →
      left ≡ length (removed order under k (take len slots)) → after ≡ remove_leaves order under k slots (take len slots) → take left after ≡ removed order under k (take len slots)
  remove_live k slots len left after c s =
      let front = take_written (removed order under k (take len slots)) slots in
      let same = take_live slots len in
      grind arith

module _ {R K : Type 0} (order : K → K → Ordering) (under : R → K) (laws : Total order) where
  pub removed_gone : (k : K) (xs : List R) → Rising order under xs → found order under k (removed order under k xs) ≡ None
  removed_gone k [] h = grind arith
  removed_gone k (x ∷ xs) h =
      let rest = removed_gone k xs h.1 in
      let gone : order (under x) k ≡ Equal → found order under k xs ≡ None = λ e. found_above order under laws k xs (subst (λ (v : K). Above order under v xs) (laws.same (under x) k e) h.0) in
      grind arith

  pub removed_others : (j k : K) (xs : List R) → Rising order under xs → k ≢ j → found order under k (removed order under j xs) ≡ found order under k xs
  removed_others j k [] h ne = grind arith
  removed_others j k (x ∷ xs) h ne =
      let rest = removed_others j k xs h.1 ne in
      let gone : order k (under x) ≡ Less → found order under k xs ≡ None = λ e. found_above order under laws k xs (above_carries order under laws k (under x) xs e h.0) in
      grind (arith, laws.same, laws.exchanged)
