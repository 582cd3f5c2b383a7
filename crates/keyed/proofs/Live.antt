-- The records at the front of the slots. Assumes nothing.
use Rattle.std.proofs.Common.{◌≡◌, ℕ, ◌-◌, ◌<◌, ◌≤◌, min, List, ◌++◌, length, take, drop, set, Some, None, Option, sym, refl, ap, ◌∙◌, ⊎_elim, arith, Bor}
use Rattle.std.specs.Option.{option_map}
use Rattle.std.specs.Slice.{IsGetResult}
use Rattle.std.specs.List.{slice_get}
use Rattle.std.proofs.lemmas.List.{length-take, length-set, take_all, take_at, take-append-drop, drop_at, set-append_left}
use Rattle.std.proofs.lemmas.Option.{slice_get_read, slice_get_past}
use Rattle.std.proofs.lemmas.Bool.{cases_lt}
use Rattle.keyed.specs.Table.{written}

-- `get` on a slice, as a read of its list
pub nth_item : {R : Type 0} (xs : List R) (i : ℕ) (r : Option (Bor R)) → IsGetResult xs i i r → option_map (λ x. x.now) r ≡ slice_get xs i
nth_item xs i None h = sym (slice_get_past xs i h.3)
nth_item xs i (Some x) h = sym (slice_get_read xs (length xs) i x.now refl h.3.0 (h.3.1 x.now))

module _ {R : Type 0} (slots : List R) (len : ℕ) where
  -- the part of the slots up to a count that is cut to their number
  pub take_cut : (count : ℕ) → count ≡ min len (length slots) → take (count - 0) slots ≡ take len slots
  take_cut count e =
      ⊎_elim
      (λ h. let q : count - 0 ≡ len = omega arith in ap (λ n. take n slots) q)
      (λ h. let q : length slots ≤ count - 0 = omega arith in take_all (count - 0) slots q ∙ sym (take_all len slots h))
      (cases_lt len (length slots))

  pub take_live : take (length (take len slots)) slots ≡ take len slots
  take_live =
      let count : length (take len slots) - 0 ≡ length (take len slots) = omega arith in
      ap (λ n. take n slots) (sym count) ∙ take_cut (length (take len slots)) (length-take len slots)

  drop_live : drop (length (take len slots)) slots ≡ drop len slots
  drop_live =
      ap (λ X. drop (length (take len slots)) X) (sym (take-append-drop len slots))
      ∙ drop_at (take len slots) (drop len slots) (length (take len slots)) refl

  -- a write at the place of a record
  pub set_live : (i : ℕ) (r : R) → i < length (take len slots) → set slots i r ≡ written (set (take len slots) i r) slots
  set_live i r h =
      ap (λ X. set X i r) (sym (take-append-drop len slots))
      ∙ set-append_left (take len slots) (drop len slots) i r h
      ∙ ap (λ X. set (take len slots) i r ++ X) (sym drop_live)
      ∙ ap (λ n. set (take len slots) i r ++ drop n slots) (sym (length-set (take len slots) i r))

-- the records that were written
pub take_written : {R : Type 0} (xs slots : List R) → take (length xs) (written xs slots) ≡ xs
take_written xs slots = take_at xs (drop (length xs) slots) (length xs) refl
