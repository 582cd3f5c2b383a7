-- Records moved by one place within the slots. Assumes nothing.
use Rattle.std.proofs.Common.{◌≡◌, ℕ, suc, ◌+◌, ◌-◌, ◌<◌, ◌≤◌, List, [], ◌∷◌, ◌++◌, length, take, drop, set, refl, sym, ap, ◌∙◌, append_assoc, arith}
use borrow.Rule.Slice.PartMut.{put_mid}
use Rattle.std.specs.List.{copy_within, insert, remove}
use Rattle.std.proofs.lemmas.List.{length-append, length-drop, length-take-le, length_push, take-take, take_at, take-set-le, take_more_set, drop_at, drop-drop, drop-take, drop-set-lt, drop-set-add}
use Rattle.keyed.specs.Table.{written}

-- r is written behind the n slots from `at` on, and then brought before them
module _ {R : Type 0} (slots : List R) (at n : ℕ) (r : R) (fits : at + n < length slots) where
  abbrev moved : List R
  moved = take n (drop at slots)

  part_is : take (n + 1) (drop at (set slots (at + n) r)) ≡ moved ++ r ∷ []
  part_is =
      let room : n < length (drop at slots) = simp length-drop (omega arith) in
      ap (take (n + 1)) (drop-set-add at slots n r) ∙ take_more_set (drop at slots) n r room

  turned_is : (part turned : List R) → part ≡ moved ++ r ∷ [] → turned ≡ drop (length part - 1) part ++ take (length part - 1) part → turned ≡ r ∷ moved
  turned_is part turned p e =
      let last : length part - 1 ≡ length moved = let long = ap length p ∙ length_push moved r in omega arith in
      let back = drop_at moved (r ∷ []) (length moved) refl in
      let front = take_at moved (r ∷ []) (length moved) refl in
      cc

  live_is : insert (take (at + n) slots) at r ≡ take at slots ++ r ∷ moved
  live_is =
      let le : at ≤ at + n = omega arith in
      let front = take-take at (at + n) slots le in
      let back = drop-take at n slots in
      cc

  live_length : length (take at slots ++ r ∷ moved) ≡ at + (n + 1)
  live_length =
      let front = length-take-le at slots (omega arith) in
      let back = length-take-le n (drop at slots) (simp length-drop (omega arith)) in
      length-append (take at slots) (r ∷ moved) ∙ omega arith

  insert_at : (turned : List R) → turned ≡ r ∷ moved → put_mid at (n + 1) (set slots (at + n) r) turned ≡ written (insert (take (at + n) slots) at r) slots
  insert_at turned e =
      let front = take-set-le at slots (at + n) r (omega arith) in
      let back = drop-drop (n + 1) at (set slots (at + n) r) ∙ drop-set-lt (at + (n + 1)) slots (at + n) r (omega arith) in
      let whole = append_assoc (take at slots) (r ∷ moved) (drop (at + (n + 1)) slots) in
      let live = live_is in
      let long = live_length in
      cc

module _ {R : Type 0} (slots : List R) (len at : ℕ) (r : R) (low : at ≤ len) (high : len < length slots) where
  abbrev part : List R
  part = take (len + 1 - at) (drop at (set slots len r))

  pub insert_is : (turned : List R) → turned ≡ drop (length part - 1) part ++ take (length part - 1) part →
      put_mid at (len + 1 - at) (set slots len r) turned ≡ written (insert (take len slots) at r) slots
  insert_is turned e =
      let n : ℕ = len - at in
      let is : len ≡ at + n = omega arith in
      let count : len + 1 - at ≡ n + 1 = omega arith in
      let room : at + n < length slots = omega arith in
      let parted : part ≡ take n (drop at slots) ++ r ∷ [] = ap (λ m. take (len + 1 - at) (drop at (set slots m r))) is ∙ ap (λ m. take m (drop at (set slots (at + n) r))) count ∙ part_is slots at n r room in
      let done = insert_at slots at n r room turned (turned_is slots at n r room part turned parted e) in
      cc

-- the record at `at` is taken out, and the m behind it move down by one
module _ {R : Type 0} (slots : List R) (at m : ℕ) (fits : suc at + m ≤ length slots) where
  abbrev later : List R
  later = take m (drop (suc at) slots)

  removed_at : remove (take (suc at + m) slots) at ≡ take at slots ++ later
  removed_at =
      let le : at ≤ suc at + m = omega arith in
      let front = take-take at (suc at + m) slots le in
      let back = drop-take (suc at) m slots in
      cc

  left_length : length (take at slots ++ later) ≡ at + m
  left_length =
      let front = length-take-le at slots (omega arith) in
      let back = length-take-le m (drop (suc at) slots) (simp length-drop (omega arith)) in
      length-append (take at slots) later ∙ omega arith

  closed : copy_within slots (suc at) (suc at + m) at ≡ written (remove (take (suc at + m) slots) at) slots
  closed =
      let more : suc at + m - suc at ≡ m = omega arith in
      let whole = append_assoc (take at slots) later (drop (at + m) slots) in
      let left = removed_at in
      let long = left_length in
      cc

pub take_out_is : {R : Type 0} (slots : List R) (len at : ℕ) → at < len → len ≤ length slots → copy_within slots (at + 1) len at ≡ written (remove (take len slots) at) slots
take_out_is slots len at low high =
    let is : len ≡ suc at + (len - suc at) = omega arith in
    let one : at + 1 ≡ suc at = omega arith in
    ap (λ i. copy_within slots i len at) one
    ∙ ap (λ n. copy_within slots (suc at) n at) is
    ∙ closed slots at (len - suc at) (omega arith)
    ∙ ap (λ n. written (remove (take n slots) at) slots) (sym is)
