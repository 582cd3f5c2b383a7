-- The records after storing. Assumes nothing, but where it takes laws that the order is total.
use Rattle.std.proofs.Common.{◌≡◌, ℕ, ◌<◌, ◌≤◌, ◌≢◌, List, [], ◌∷◌, length, take, Some, None, Ok, Err, Result, Ordering, Less, Equal, Greater, refl, subst, arith}
use Rattle.std.proofs.lemmas.Bool.{cond_both}
use Rattle.std.proofs.lemmas.Bool.Decides.{nat_tests}
use Rattle.keyed.specs.declared.store.Full.{Full}
use Rattle.keyed.specs.Orders.{Total}
use Rattle.keyed.specs.Rising.{Above, Rising}
use Rattle.keyed.specs.Find.{found}
use Rattle.keyed.specs.Store.{stored, refused, full, store_answer, store_keeps, store_leaves}
use Rattle.keyed.proofs.Live.{take_written}
use Rattle.keyed.proofs.Found.{found_there}
use Rattle.keyed.proofs.Rising.{above_carries}

module _ {R K : Type 0} (order : K → K → Ordering) (under : R → K) where
  pub place_free : (r : R) (places : ℕ) (xs : List R) → length xs < places → store_answer order under r places xs ≡ Ok (length (stored order under r xs))
  place_free r places xs free = grind (arith, nat_tests)

  pub full_only : (r : R) (places : ℕ) (xs : List R) → store_answer order under r places xs ≡ Err full → (found order under (under r) xs ≡ None) × (places ≤ length xs)
  full_only r places xs e = (grind (arith, nat_tests), grind (arith, nat_tests))

  pub full_then : (r : R) (places : ℕ) (xs : List R) → found order under (under r) xs ≡ None → places ≤ length xs → store_answer order under r places xs ≡ Err full
  full_then r places xs none taken = let there = found_there order under (under r) xs in grind (arith, nat_tests)

  stored_cons : (r x : R) (xs : List R) → elim (order (under x) (under r)) [ Less ↦ x ∷ stored order under r xs | Equal ↦ r ∷ xs | Greater ↦ r ∷ x ∷ xs ] ≡ stored order under r (x ∷ xs)
  stored_cons r x xs = grind arith

module _ {R K : Type 0} (order : K → K → Ordering) (under : R → K) (laws : Total order) where
  pub stored_found : (r : R) (xs : List R) → found order under (under r) (stored order under r xs) ≡ Some r
  stored_found r [] = grind (arith, laws.itself (under r))
  stored_found r (x ∷ xs) = let rest = stored_found r xs in grind (arith, laws.itself (under r))

  pub stored_others : (r : R) (k : K) (xs : List R) → k ≢ under r → found order under k (stored order under r xs) ≡ found order under k xs
  stored_others r k [] ne = grind (arith, laws.same (under r) k)
  stored_others r k (x ∷ xs) ne = let rest = stored_others r k xs ne in grind (arith, laws.same, laws.exchanged, laws.carries)

  above_stored : (k : K) (r : R) (xs : List R) → order k (under r) ≡ Less → Above order under k xs → Above order under k (stored order under r xs)
  above_stored k r [] e h = (e, tt)
  above_stored k r (x ∷ xs) e h =
      subst (Above order under k) (stored_cons order under r x xs)
      (elim (order (under x) (under r)) as (λ o. Above order under k (elim o [ Less ↦ x ∷ stored order under r xs | Equal ↦ r ∷ xs | Greater ↦ r ∷ x ∷ xs ]))
      [ Less ↦ (h.0, above_stored k r xs e h.1) | Equal ↦ (e, h.1) | Greater ↦ (e, h) ])

  rising_step : (r x : R) (xs : List R) → Rising order under (x ∷ xs) → Rising order under (stored order under r xs) → (o : Ordering) → order (under x) (under r) ≡ o →
      Rising order under (elim o [ Less ↦ x ∷ stored order under r xs | Equal ↦ r ∷ xs | Greater ↦ r ∷ x ∷ xs ])
  rising_step r x xs h rest Less e = (above_stored (under x) r xs e h.0, rest)
  rising_step r x xs h rest Equal e = (subst (λ (k : K). Above order under k xs) (laws.same (under x) (under r) e) h.0, h.1)
  rising_step r x xs h rest Greater e =
      let less : order (under r) (under x) ≡ Less = grind (arith, laws.exchanged (under x) (under r)) in
      ((less, above_carries order under laws (under r) (under x) xs less h.0), h)

  rising_stored : (r : R) (xs : List R) → Rising order under xs → Rising order under (stored order under r xs)
  rising_stored r [] h = (tt, tt)
  rising_stored r (x ∷ xs) h =
      subst (Rising order under) (stored_cons order under r x xs) (rising_step r x xs h (rising_stored r xs h.1) (order (under x) (under r)) refl)

  pub store_rises : (r : R) (places : ℕ) (xs : List R) → Rising order under xs → Rising order under (store_keeps order under r places xs)
  store_rises r places xs h =
      cond_both (refused order under r places xs) xs (stored order under r xs) (Rising order under) (λ _. h) (λ _. rising_stored r xs h)

-- how many records there are after an answer, where there were n
abbrev pub counted : ℕ → Result ℕ Full → ℕ
counted n (Ok m) = m
counted n (Err _) = n

-- the records at the front of the slots after a call of `store`
pub store_live : {R K : Type 0} (order : K → K → Ordering) (under : R → K) (slots : List R) (len : ℕ) (r : R) (answer : Result ℕ Full) (after : List R) →
    answer ≡ store_answer order under r (length slots) (take len slots) → after ≡ store_leaves order under r slots (take len slots) →
    take (counted len answer) after ≡ store_keeps order under r (length slots) (take len slots)
store_live order under slots len r answer after a s =
    let front = take_written (stored order under r (take len slots)) slots in
    grind arith
