-- The networks of a mask are as many as its set bits, and the counts of both. Assumes nothing.
use Rattle.std.proofs.Common.{◌≡◌, ℕ, zero, suc, ◌+◌, ◌*◌, ◌-◌, ◌^◌, ◌<◌, ◌≤◌, min, Bool, true, ◌&&◌, eqb, List, [], ◌∷◌, length, get_or, refl, subst, ⊎_elim, ◌∙◌, arith}
use lib.Count.{ones, ones_in, ones-le}
use Rattle.std.specs.Prelude.{fold}
use Rattle.std.proofs.lemmas.Bool.{and_parts, cases_lt, eqb-true}
use Rattle.report.specs.Masks.{networks, set_bits}

-- computed for each mask
below : ℕ → Bool
below zero = true
below (suc n) = eqb (length (networks n)) (ones n) && below n

at : (n m : ℕ) → below n ≡ true → m < n → length (networks m) ≡ ones m
unfolding below
at zero m e h = absurd (let z : ⊥ = omega arith in z)
at (suc n) m e h =
    let parts = and_parts (eqb (length (networks n)) (ones n)) (below n) e in
    ⊎_elim (λ l. at n m parts.1 l)
    (λ l. let same : n ≡ m = omega arith in subst (λ k. length (networks k) ≡ ones k) same (eqb-true (length (networks n)) (ones n) parts.0))
    (cases_lt m n)

pub networks_are_ones : (m : ℕ) → m < 256 → length (networks m) ≡ ones m
unfolding below ones ones_in
networks_are_ones m h = at 256 m refl h

-- bytes have at most 8 set bits each
pub few_bits : (ms : List ℕ) → ((k : ℕ) → k < length ms → get_or ms k 0 < 256) → set_bits ms ≤ 8 * length ms
few_bits [] h = omega arith
few_bits (m ∷ ms) h =
    let byte : m < 256 = h 0 (omega arith) in
    omega (arith, ones-le 8 m byte, networks_are_ones m byte, few_bits ms (λ k l. h (suc k) (omega arith)))

-- a count that stops at the top
abbrev pub top : ℕ
top = 2 ^ 32 - 1

pub bits_from :
    (n : ℕ) (ms : List ℕ) → n ≤ top → ((k : ℕ) → k < length ms → get_or ms k 0 < 256)
    → fold (λ bits m. min (bits + ones m) top) n ms ≡ min (n + set_bits ms) top
bits_from n [] low h = omega arith
bits_from n (m ∷ ms) low h =
    let byte : m < 256 = h 0 (omega arith) in
    bits_from (min (n + ones m) top) ms (omega arith) (λ k l. h (suc k) (omega arith)) ∙ omega (arith, networks_are_ones m byte)
