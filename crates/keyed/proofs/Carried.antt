-- Records carried over to others whose keys compare in the same way, and the number of slots. Assumes nothing.
use Rattle.std.proofs.Common.{◌≡◌, ℕ, zero, suc, ◌≤◌, Bool, true, false, cond, leb, List, [], ◌∷◌, ◌++◌, map, length, take, drop, set, None, Ordering, Less, Equal, Greater, sym, refl, ap, ◌∙◌, ap₂, arith, Ok, Err}
use Rattle.std.specs.Option.{option_map}
use Rattle.std.specs.List.{insert, remove as removed_at, slice_get}
use Rattle.std.proofs.lemmas.List.{map-append, map-set, take-map, drop-map, length-map, length-append, length-drop, length-take, length-set}
use Rattle.std.proofs.lemmas.List.Edits.{length-insert, length-remove}
use Rattle.std.proofs.lemmas.Bool.{leb-false}
use Rattle.keyed.specs.Table.{written}
use Rattle.keyed.specs.Find.{Place, later, place_of, Within, found}
use Rattle.keyed.specs.Store.{stored, refused, store_keeps, store_leaves}
use Rattle.keyed.specs.Remove.{removed, remove_leaves}
use Rattle.keyed.proofs.Found.{place_within}

nth_map : {R S : Type 0} (f : R → S) (xs : List R) (i : ℕ) → option_map f (slice_get xs i) ≡ slice_get (map f xs) i
nth_map f [] i = refl
nth_map f (x ∷ xs) zero = refl
nth_map f (x ∷ xs) (suc i) = nth_map f xs i

-- records under other keys that compare in the same way
module _ {R S K J : Type 0} (order : K → K → Ordering) (under : R → K) (order' : J → J → Ordering) (under' : S → J) (f : R → S) (k : K) (j : J)
    (same : (x : R) → order (under x) k ≡ order' (under' (f x)) j) where
  place_map : (xs : List R) → place_of order under k xs ≡ place_of order' under' j (map f xs)
  place_map [] = refl
  place_map (x ∷ xs) = ap₂ (λ o p. elim o [ Less ↦ later p | Equal ↦ Ok 0 | Greater ↦ Err 0 ]) (same x) (place_map xs)

  pub found_map : (xs : List R) → option_map f (found order under k xs) ≡ found order' under' j (map f xs)
  found_map xs = go (place_of order under k xs) ∙ ap (λ p. elim p [ Ok i ↦ slice_get (map f xs) i | Err i ↦ None ]) (place_map xs)
    where
      go : (p : Place) → option_map f (elim p [ Ok i ↦ slice_get xs i | Err i ↦ None ]) ≡ elim p [ Ok i ↦ slice_get (map f xs) i | Err i ↦ None ]
      go (Ok i) = nth_map f xs i
      go (Err i) = refl

  pub removed_map : (xs : List R) → map f (removed order under k xs) ≡ removed order' under' j (map f xs)
  removed_map xs = go (place_of order under k xs) ∙ ap (λ p. elim p [ Ok i ↦ removed_at (map f xs) i | Err i ↦ map f xs ]) (place_map xs)
    where
      go : (p : Place) → map f (elim p [ Ok i ↦ removed_at xs i | Err i ↦ xs ]) ≡ elim p [ Ok i ↦ removed_at (map f xs) i | Err i ↦ map f xs ]
      go (Ok i) = map-append f (take i xs) (drop (suc i) xs) ∙ ap₂ ◌++◌ (sym (take-map f i xs)) (sym (drop-map f (suc i) xs))
      go (Err i) = refl

module _ {R S K J : Type 0} (order : K → K → Ordering) (under : R → K) (order' : J → J → Ordering) (under' : S → J) (f : R → S) (r : R)
    (same : (x : R) → order (under x) (under r) ≡ order' (under' (f x)) (under' (f r))) where
  place_stored : (xs : List R) → place_of order under (under r) xs ≡ place_of order' under' (under' (f r)) (map f xs)
  place_stored = place_map order under order' under' f (under r) (under' (f r)) same

  pub stored_map : (xs : List R) → map f (stored order under r xs) ≡ stored order' under' (f r) (map f xs)
  stored_map xs = go (place_of order under (under r) xs) ∙ ap (λ p. elim p [ Ok i ↦ set (map f xs) i (f r) | Err i ↦ insert (map f xs) i (f r) ]) (place_stored xs)
    where
      go : (p : Place) → map f (elim p [ Ok i ↦ set xs i r | Err i ↦ insert xs i r ]) ≡ elim p [ Ok i ↦ set (map f xs) i (f r) | Err i ↦ insert (map f xs) i (f r) ]
      go (Ok i) = map-set f xs i r
      go (Err i) = map-append f (take i xs) (r ∷ drop i xs) ∙ ap₂ (λ a b. a ++ f r ∷ b) (sym (take-map f i xs)) (sym (drop-map f i xs))

  pub refused_map : (places : ℕ) (xs : List R) → refused order under r places xs ≡ refused order' under' (f r) places (map f xs)
  refused_map places xs =
      ap₂ (λ p n. elim p [ Ok i ↦ false | Err i ↦ leb places n ]) (place_stored xs) (sym (length-map xs f))

  pub keeps_map : (places : ℕ) (xs : List R) → map f (store_keeps order under r places xs) ≡ store_keeps order' under' (f r) places (map f xs)
  keeps_map places xs = go (refused order under r places xs) ∙ ap₂ (λ b ys. cond b (map f xs) ys) (refused_map places xs) (stored_map xs)
    where
      go : (b : Bool) → map f (cond b xs (stored order under r xs)) ≡ cond b (map f xs) (map f (stored order under r xs))
      go true = refl
      go false = refl

-- the slots stay as many
long_written : {R : Type 0} (xs slots : List R) → length xs ≤ length slots → length (written xs slots) ≡ length slots
long_written xs slots h = length-append xs (drop (length xs) slots) ∙ omega (arith, length-drop (length xs) slots)

module _ {R K : Type 0} (order : K → K → Ordering) (under : R → K) where
  pub long_stored : (r : R) (slots : List R) (len : ℕ) → length (store_leaves order under r slots (take len slots)) ≡ length slots
  long_stored r slots len = go (place_of order under (under r) xs) (place_within order under (under r) xs)
    where
      xs : List R
      xs = take len slots

      few : length xs ≤ length slots
      few = omega (arith, length-take len slots)

      put : (i : ℕ) → i ≤ length xs → (b : Bool) → leb (length slots) (length xs) ≡ b → length (cond b slots (written (insert xs i r) slots)) ≡ length slots
      put i h true e = refl
      put i h false e = long_written (insert xs i r) slots (omega (arith, length-insert xs i r h, leb-false (length slots) (length xs) e))

      go : (p : Place) → Within (length xs) p
          → length (cond (elim p [ Ok i ↦ false | Err i ↦ leb (length slots) (length xs) ]) slots (written (elim p [ Ok i ↦ set xs i r | Err i ↦ insert xs i r ]) slots)) ≡ length slots
      go (Ok i) h = long_written (set xs i r) slots (omega (arith, length-set xs i r, few))
      go (Err i) h = put i h (leb (length slots) (length xs)) refl

  pub long_removed : (k : K) (slots : List R) (len : ℕ) → length (remove_leaves order under k slots (take len slots)) ≡ length slots
  long_removed k slots len = go (place_of order under k xs) (place_within order under k xs)
    where
      xs : List R
      xs = take len slots

      go : (p : Place) → Within (length xs) p → length {A = R} (elim p [ Ok i ↦ written (removed_at xs i) slots | Err i ↦ slots ]) ≡ length slots
      go (Ok i) h = long_written (removed_at xs i) slots (omega (arith, length-remove xs i h, length-take len slots))
      go (Err i) h = refl
