-- What is found is a record of the table, and how many records storing and removing leave. Assumes nothing.
use Rattle.std.proofs.Common.{◌≡◌, ℕ, suc, ◌≤◌, false, leb, List, ◌∷◌, length, take, drop, set, Some, None, Ordering, arith, length-set, Ok, Err}
use Rattle.std.specs.List.{insert, remove as removed_at, slice_get}
use Rattle.std.proofs.lemmas.Bool.{leb-false}
use Rattle.std.proofs.lemmas.List.{length-append, length-take, length-drop}
use Rattle.keyed.specs.Find.{Place, place_of, found}
use Rattle.keyed.specs.Store.{stored, refused}
use Rattle.keyed.specs.Remove.{removed}

module _ {R K : Type 0} (order : K → K → Ordering) (under : R → K) (xs : List R) where
  pub found_place : (k : K) (r : R) → found order under k xs ≡ Some r → (i : ℕ) × (slice_get xs i ≡ Some r)
  found_place k r e = go (place_of order under k xs) e
    where
      go : (p : Place) → elim p [ Ok i ↦ slice_get xs i | Err i ↦ None ] ≡ Some r → (i : ℕ) × (slice_get xs i ≡ Some r)
      go (Ok i) e = (i, e)
      go (Err i) e = let z : ◌≡◌ {A = ℕ} 0 1 = cc in let g : ⊥ = omega arith in absurd g

  inserted_few : (i : ℕ) (r : R) → length (insert xs i r) ≤ suc (length xs)
  inserted_few i r = let a = length-take i xs in let b = length-drop i xs in let c = length-append (take i xs) (r ∷ drop i xs) in omega arith

  pub stored_few : (r : R) (places : ℕ) → length xs ≤ places → refused order under r places xs ≡ false → length (stored order under r xs) ≤ places
  stored_few r places few e = go (place_of order under (under r) xs) e
    where
      go : (p : Place) → elim p [ Ok i ↦ false | Err i ↦ leb places (length xs) ] ≡ false
          → length {A = R} (elim p [ Ok i ↦ set xs i r | Err i ↦ insert xs i r ]) ≤ places
      go (Ok i) e = let s = length-set xs i r in omega arith
      go (Err i) e = let s = inserted_few i r in let l = leb-false places (length xs) e in omega arith

  removed_few_at : (i : ℕ) → length (removed_at xs i) ≤ length xs
  removed_few_at i =
      let a = length-take i xs in let b = length-drop (suc i) xs in let c = length-append (take i xs) (drop (suc i) xs) in omega arith

  pub removed_few : (k : K) → length (removed order under k xs) ≤ length xs
  removed_few k = go (place_of order under k xs)
    where
      go : (p : Place) → length {A = R} (elim p [ Ok i ↦ removed_at xs i | Err i ↦ xs ]) ≤ length xs
      go (Ok i) = removed_few_at i
      go (Err i) = omega arith
