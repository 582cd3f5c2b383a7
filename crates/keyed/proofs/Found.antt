-- The place of a key among the records, and the record there. Assumes nothing.
use Rattle.std.proofs.Common.{◌≡◌, ℕ, zero, suc, ◌+◌, ◌<◌, ◌≤◌, List, [], ◌∷◌, length, get_or, drop, Some, None, Ordering, Less, Equal, Greater, sym, ap, subst, arith, Ok, Err}
use Rattle.std.specs.List.{slice_get}
use Rattle.std.proofs.lemmas.List.{drop_more, drop_all}
use Rattle.keyed.specs.Orders.{Total}
use Rattle.keyed.specs.Find.{Place, later, place_of, Within, found}

-- the same place where n records more come first
abbrev pub later_by : ℕ → Place → Place
later_by n (Ok i) = Ok (n + i)
later_by n (Err i) = Err (n + i)

later_by_none : (p : Place) → later_by 0 p ≡ p
later_by_none (Ok i) = ap Ok (omega arith)
later_by_none (Err i) = ap Err (omega arith)

later_by_more : (n : ℕ) (p : Place) → later_by n (later p) ≡ later_by (n + 1) p
later_by_more n (Ok i) = ap Ok (omega arith)
later_by_more n (Err i) = ap Err (omega arith)

within_later : (n : ℕ) (p : Place) → Within n p → Within (suc n) (later p)
within_later n (Ok i) h = omega arith
within_later n (Err i) h = omega arith

nth_there : {R : Type 0} (xs : List R) (i : ℕ) → i < length xs → slice_get xs i ≡ None → ⊥
nth_there [] i l e = omega arith
nth_there (x ∷ xs) zero l e = let z : ◌≡◌ {A = ℕ} 0 1 = cc in omega arith
nth_there (x ∷ xs) (suc i) l e = nth_there xs i (omega arith) e

module _ {R K : Type 0} (order : K → K → Ordering) (under : R → K) (k : K) where
  -- the record x at i is looked at, and its key j compares as o
  pub place_more : (o : Ordering) (j : K) (xs : List R) (i : ℕ) (x : R) → o ≡ order j k → j ≡ under x → i < length xs → x ≡ get_or xs i x → place_of order under k xs ≡ later_by i (place_of order under k (drop i xs)) →
      place_of order under k xs ≡ elim o [ Less ↦ later_by (i + 1) (place_of order under k (drop (i + 1) xs)) | Equal ↦ Ok i | Greater ↦ Err i ]
  place_more o j xs i x compared key l read e =
      let cut = drop_more xs i x l in
      let more = later_by_more i (place_of order under k (drop (i + 1) xs)) in
      let here : i + 0 ≡ i = omega arith in
      grind arith

  pub place_none : (xs : List R) → place_of order under k xs ≡ later_by 0 (place_of order under k xs)
  place_none xs = sym (later_by_none (place_of order under k xs))

  pub place_all : (xs : List R) (i : ℕ) → i ≤ length xs → length xs ≤ i → place_of order under k xs ≡ later_by i (place_of order under k (drop i xs)) → Err (length xs) ≡ place_of order under k xs
  place_all xs i l m e =
      let none = drop_all i xs m in
      let end : i + 0 ≡ length xs = omega arith in
      grind arith

  pub place_within : (xs : List R) → Within (length xs) (place_of order under k xs)
  place_within [] = omega arith
  place_within (x ∷ xs) =
      elim (order (under x) k) as (λ o. Within (suc (length xs)) (elim o [ Less ↦ later (place_of order under k xs) | Equal ↦ Ok 0 | Greater ↦ Err 0 ]))
      [ Less ↦ within_later (length xs) (place_of order under k xs) (place_within xs) | Equal ↦ omega arith | Greater ↦ omega arith ]

  -- a record that stands at a place is found
  pub found_there : (xs : List R) (i : ℕ) → place_of order under k xs ≡ Ok i → found order under k xs ≡ None → ⊥
  found_there xs i e none = nth_there xs i (subst (Within (length xs)) e (place_within xs)) (grind arith)

-- what is found under a key has that key
pub found_key : {R K : Type 0} (order : K → K → Ordering) (under : R → K) → Total order → (k : K) (r : R) (xs : List R) → found order under k xs ≡ Some r → under r ≡ k
found_key order under laws k r [] e = grind arith
found_key order under laws k r (x ∷ xs) e = let rest = found_key order under laws k r xs in grind (arith, laws.same (under x) k)
