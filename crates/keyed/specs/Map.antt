-- A table is a map from keys to records: `order` compares keys, `under` is the key of a record. Assumes nothing.
use Rattle.std.specs.Prelude.{◌≡◌, ℕ, ◌<◌, ◌≤◌, ◌≢◌, List, length, Some, None, Ok, Err, slice_index_or}
use Rattle.std.specs.declared.cmp.Ordering.{Ordering}
use Rattle.keyed.specs.Rising.{Rising}
use Rattle.keyed.specs.Find.{found}
use Rattle.keyed.specs.Store.{stored, full, store_answer, store_keeps}
use Rattle.keyed.specs.Remove.{removed}

pub record TableIsMap {R K : Type 0} (order : K → K → Ordering) (under : R → K) : Type 0 where
  -- What is found under a key has that key.
  pub found_key : (k : K) (r : R) (xs : List R) → found order under k xs ≡ Some r → under r ≡ k
  -- A stored record is found under its key, and every other key finds what it found before.
  pub stored_found : (r : R) (xs : List R) → found order under (under r) (stored order under r xs) ≡ Some r
  pub stored_others : (r : R) (k : K) (xs : List R) → k ≢ under r → found order under k (stored order under r xs) ≡ found order under k xs
  -- A removed key finds nothing, and every other key finds what it found before.
  pub removed_gone : (k : K) (xs : List R) → Rising order under xs → found order under k (removed order under k xs) ≡ None
  pub removed_others : (j k : K) (xs : List R) → Rising order under xs → k ≢ j → found order under k (removed order under j xs) ≡ found order under k xs
  -- A record is refused exactly if its key finds nothing and every place is taken; so never with a place free.
  pub full_only : (r : R) (places : ℕ) (xs : List R) → store_answer order under r places xs ≡ Err full → (found order under (under r) xs ≡ None) × (places ≤ length xs)
  pub full_then : (r : R) (places : ℕ) (xs : List R) → found order under (under r) xs ≡ None → places ≤ length xs → store_answer order under r places xs ≡ Err full
  pub place_free : (r : R) (places : ℕ) (xs : List R) → length xs < places → store_answer order under r places xs ≡ Ok (length (stored order under r xs))
  -- Storing and removing keep the order rising.
  pub store_rises : (r : R) (places : ℕ) (xs : List R) → Rising order under xs → Rising order under (store_keeps order under r places xs)
  pub remove_rises : (k : K) (xs : List R) → Rising order under xs → Rising order under (removed order under k xs)
  -- In a rising table each record is found under its key, and no two have the same key.
  pub each_found : (xs : List R) (i : ℕ) (d : R) → Rising order under xs → i < length xs → found order under (under (slice_index_or xs i d)) xs ≡ Some (slice_index_or xs i d)
  pub each_key_once : (xs : List R) (i j : ℕ) (d : R) → Rising order under xs → i < length xs → j < length xs → under (slice_index_or xs i d) ≡ under (slice_index_or xs j d) → i ≡ j
