-- The records of a table once one more was stored in it. Assumes nothing.
use Rattle.std.proofs.Common.{◌≡◌, ℕ, Bool, true, false, cond, List, length, take, Ok, Err, Result, Ordering, ap, ◌∙◌, arith}
use Rattle.std.proofs.lemmas.Bool.Decides.{nat_tests}
use Rattle.keyed.specs.declared.store.Full.{Full}
use Rattle.keyed.specs.Table.{written}
use Rattle.keyed.specs.Store.{stored, refused, full, store_answer, store_keeps, store_leaves}
use Rattle.keyed.proofs.Live.{take_written}

-- `b` says whether it was refused, `ys` are the records with it
by : {R : Type 0} (b : Bool) (ys xs slots : List R) (n : ℕ) → ◌≡◌ {A = Result ℕ Full} (Ok n) (cond b (Err full) (Ok (length ys))) → take n (cond b slots (written ys slots)) ≡ cond b xs ys
by true ys xs slots n e = grind (arith, nat_tests)
by false ys xs slots n e =
    let is : n ≡ length ys = grind (arith, nat_tests) in
    ap (λ k. take k (written ys slots)) is ∙ take_written ys slots

pub kept :
    {R K : Type 0} (order : K → K → Ordering) (under : R → K) (r : R) (slots xs : List R) (n : ℕ) → ◌≡◌ {A = Result ℕ Full} (Ok n) (store_answer order under r (length slots) xs)
    → take n (store_leaves order under r slots xs) ≡ store_keeps order under r (length slots) xs
kept order under r slots xs n e = by (refused order under r (length slots) xs) (stored order under r xs) xs slots n e
