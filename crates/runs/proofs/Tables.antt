-- Reports in a table, as members of a list. Assumes nothing, but where it says that the reports rise.
use Rattle.std.proofs.Common.{◌≡◌, ℕ, zero, suc, ◌≤◌, Bool, true, false, cond, ◌⊎◌, List, [], ◌∷◌, map, length, Some, None, Ok, Err, Result, Less, sym, refl, ap, ◌∙◌, subst, inl, inr}
use Rattle.std.specs.List.{AllByRecursion, slice_get}
use Rattle.std.proofs.lemmas.Bool.{cases_eq}
use Rattle.keyed.specs.declared.store.Full.{Full}
use Rattle.keyed.specs.Orders.{numbers}
use Rattle.keyed.specs.Rising.{Above, Rising}
use Rattle.keyed.specs.Find.{found}
use Rattle.keyed.specs.Store.{stored, refused, full, store_keeps}
use Rattle.keyed.specs.Remove.{removed}
use Rattle.keyed.specs.Map.{TableIsMap}
use Rattle.keyed.proofs.Orders.{total_numbers}
use Rattle.keyed.proofs.Members.{found_place}
use Rattle.keyed.proofs.Map.{table_is_map}
use Rattle.report.specs.Reports.{Report}
use Rattle.train.specs.Truth.{In, here, there}
use Rattle.train.specs.Rules.{Different}
use Rattle.fitting.specs.Neighbours.{blank}
use Rattle.fitting.proofs.Found.{at_in}
use Rattle.fitting.proofs.Steps.{some_same, none_some}
use Rattle.runs.specs.Calls.{own_mac}

is_map : TableIsMap numbers own_mac
is_map = table_is_map numbers own_mac total_numbers

abbrev pub Rises : List Report → Type 0
Rises xs = Rising numbers own_mac xs

pub in_found : (xs : List Report) (r : Report) → Rises xs → In r xs → found numbers own_mac r.mac xs ≡ Some r
in_found xs r rises i =
    let at = at_in blank r xs i in
    subst (λ (q : Report). found numbers own_mac q.mac xs ≡ Some q) at.2 (is_map.each_found xs at.0 blank rises at.1)

nth_in : (xs : List Report) (i : ℕ) (r : Report) → slice_get xs i ≡ Some r → In r xs
nth_in [] i r e = absurd (none_some e)
nth_in (x ∷ xs) zero r e = subst (λ (q : Report). In q (x ∷ xs)) (some_same e) here
nth_in (x ∷ xs) (suc i) r e = there (nth_in xs i r e)

pub found_in : (xs : List Report) (m : ℕ) (r : Report) → found numbers own_mac m xs ≡ Some r → In r xs
found_in xs m r e = let f = found_place numbers own_mac xs m r e in nth_in xs f.0 r f.1

pub found_mac : (xs : List Report) (m : ℕ) (r : Report) → found numbers own_mac m xs ≡ Some r → r.mac ≡ m
found_mac xs m r e = is_map.found_key m r xs e

-- what a stored report leaves
pub of_stored : (xs : List Report) (r x : Report) → Rises (stored numbers own_mac r xs) → In x (stored numbers own_mac r xs)
    → (x ≡ r) ⊎ (In x xs × (x.mac ≡ r.mac → ⊥))
of_stored xs r x rises i =
    let f = in_found (stored numbers own_mac r xs) x rises i in
    elim (cases_eq x.mac r.mac) [
      | inl e ↦ inl (some_same (sym f ∙ ap (λ m. found numbers own_mac m (stored numbers own_mac r xs)) e ∙ is_map.stored_found r xs))
      | inr n ↦ inr (found_in xs x.mac x (sym (is_map.stored_others r x.mac xs n) ∙ f), n)
    ]

pub stored_in : (xs : List Report) (r : Report) → In r (stored numbers own_mac r xs)
stored_in xs r = found_in (stored numbers own_mac r xs) r.mac r (is_map.stored_found r xs)

pub still_stored : (xs : List Report) (r x : Report) → Rises xs → In x xs → (x.mac ≡ r.mac → ⊥) → In x (stored numbers own_mac r xs)
still_stored xs r x rises i n = found_in (stored numbers own_mac r xs) x.mac x (is_map.stored_others r x.mac xs n ∙ in_found xs x rises i)

-- what a removed one leaves
pub of_removed : (xs : List Report) (m : ℕ) (x : Report) → Rises xs → In x (removed numbers own_mac m xs) → In x xs × (x.mac ≡ m → ⊥)
of_removed xs m x rises i =
    let f = in_found (removed numbers own_mac m xs) x (is_map.remove_rises m xs rises) i in
    let n : x.mac ≡ m → ⊥ = λ e. none_some (sym (is_map.removed_gone m xs rises) ∙ ap (λ k. found numbers own_mac k (removed numbers own_mac m xs)) (sym e) ∙ f) in
    (found_in xs x.mac x (sym (is_map.removed_others m x.mac xs rises n) ∙ f), n)

pub still_there : (xs : List Report) (m : ℕ) (x : Report) → Rises xs → In x xs → (x.mac ≡ m → ⊥) → In x (removed numbers own_mac m xs)
still_there xs m x rises i n =
    found_in (removed numbers own_mac m xs) x.mac x (is_map.removed_others m x.mac xs rises n ∙ in_found xs x rises i)

pub removed_rises : (xs : List Report) (m : ℕ) → Rises xs → Rises (removed numbers own_mac m xs)
removed_rises xs m = is_map.remove_rises m xs

pub keeps_rises : (xs : List Report) (r : Report) (room : ℕ) → Rises xs → Rises (store_keeps numbers own_mac r room xs)
keeps_rises xs r room = is_map.store_rises r room xs

-- every place is taken exactly where the key is new and there is no room
pub full_only : (xs : List Report) (r : Report) (room : ℕ) → refused numbers own_mac r room xs ≡ true → (found numbers own_mac r.mac xs ≡ None) × (room ≤ length xs)
full_only xs r room e = is_map.full_only r room xs (ap (λ b. cond b (Err full) (Ok (length (stored numbers own_mac r xs)))) e)

-- each has a MAC of its own
above_other : (k : ℕ) (xs : List Report) → Above numbers own_mac k xs → AllByRecursion (λ m. k ≡ m → ⊥) (map own_mac xs)
above_other k [] h = tt
above_other k (x ∷ xs) h = (λ e. other h.0 e, above_other k xs h.1)
  where
    other : numbers k x.mac ≡ Less → k ≡ x.mac → ⊥
    other l e = let s = total_numbers.itself k in let t : numbers k k ≡ Less = ap (numbers k) e ∙ l in cc

pub rises_differ : (xs : List Report) → Rises xs → Different (map own_mac xs)
rises_differ [] h = tt
rises_differ (x ∷ xs) h = (above_other x.mac xs h.0, rises_differ xs h.1)

pub full_then : (xs : List Report) (r : Report) (room : ℕ) → found numbers own_mac r.mac xs ≡ None → room ≤ length xs → refused numbers own_mac r room xs ≡ true
full_then xs r room none few = go (refused numbers own_mac r room xs) (is_map.full_then r room xs none few)
  where
    go : (b : Bool) → ◌≡◌ {A = Result ℕ Full} (cond b (Err full) (Ok (length (stored numbers own_mac r xs)))) (Err full) → b ≡ true
    go true e = refl
    go false e = cc
