-- Masks: the code's tests of four places. Assumes nothing.
use Rattle.std.proofs.Common.{◌≡◌, ℕ, zero, suc, ◌+◌, ◌-◌, ◌%◌, ◌^◌, ◌<◌, ◌≤◌, Bool, true, false, cond, not, eqb, ltb, List, [], ◌∷◌, map, length, get_or, take, drop, sym, refl, ap, ◌∙◌, subst, ⊎_elim, arith}
use mathlib.Core.Bool.{beq}
use lib.Bits.{bit_and, bit_or, or_zero_l, or_zero_r}
use Rattle.std.specs.Prelude.{fold}
use Rattle.report.proofs.Bits.{or_assoc}
use Rattle.std.proofs.lemmas.List.{get_or-take, get_or-drop, get_or_past, length-take, length-map}
use Rattle.std.proofs.lemmas.Bool.{cases_lt, and_parts, and_from, eqb-true}
use Rattle.std.proofs.lemmas.Bool.Decides.{nat_tests}
use Rattle.report.specs.Masks.{is_mask, all_masks, together, unbroken, set_bits}
use Rattle.report.specs.Reports.{filled}
use Rattle.report.specs.Reading.{nodes_in, masks_in, padded}

abbrev agree : Bool → Bool → Bool
agree true b = b
agree false b = not b

agreed : (a b : Bool) → agree a b ≡ true → a ≡ b
agreed true true e = refl
agreed true false e = sym e
agreed false true e = e
agreed false false e = refl

-- a test of all numbers below n, computed
below : (ℕ → Bool) → ℕ → Bool
below f zero = true
below f (suc n) = cond (f n) (below f n) false

both : (a b : Bool) → cond a b false ≡ true → (a ≡ true) × (b ≡ true)
both true b e = (refl, e)
both false b e = (e, absurd (let z : ◌≡◌ {A = ℕ} 0 1 = cc in (let f : ⊥ = omega arith in f)))

at : (f : ℕ → Bool) (n k : ℕ) → below f n ≡ true → k < n → f k ≡ true
unfolding below
at f zero k t h = absurd (let z : ⊥ = omega arith in z)
at f (suc n) k t h =
    let parts = both (f n) (below f n) t in
    ⊎_elim (λ l. at f n k parts.1 l) (λ l. let e : n ≡ k = omega arith in subst (λ m. f m ≡ true) e parts.0) (cases_lt k n)

-- One more than a mask shares no bit with it exactly where no bit is missing below one that is set.
carries : ℕ → Bool
carries m = agree (eqb (bit_and m (m + 1)) 0) (unbroken m)

pub unbroken_carries : (m : ℕ) → m < 256 → eqb (bit_and m (m + 1)) 0 ≡ unbroken m
unfolding carries unbroken below
unbroken_carries m h = agreed (eqb (bit_and m (m + 1)) 0) (unbroken m) (at carries 256 m refl h)

together_from : (a : ℕ) (ms : List ℕ) → fold (λ all m. bit_or all m) a ms ≡ bit_or a (together ms)
together_from a [] = sym (or_zero_r a)
together_from a (m ∷ ms) = together_from (bit_or a m) ms ∙ or_assoc a m (together ms)

pub together_fold : (ms : List ℕ) → fold (λ all m. bit_or all m) 0 ms ≡ together ms
together_fold ms = together_from 0 ms ∙ or_zero_l (together ms)

-- the mask at place i, out of its word
loads : (xs : List ℕ) (i : ℕ) → get_or (map (λ w. w % 2 ^ 8) xs) i 0 ≡ get_or xs i 0 % 2 ^ 8
loads [] i = refl
loads (x ∷ xs) zero = refl
loads (x ∷ xs) (suc i) = loads xs i

pub mask_word : (ws : List ℕ) (n i : ℕ) → i < n → get_or ws (12 + i) 0 % 2 ^ 8 ≡ get_or (map (λ w. w % 2 ^ 8) (take n (drop 12 ws))) i 0
mask_word ws n i h = sym (loads (take n (drop 12 ws)) i ∙ ap (λ w. w % 2 ^ 8) (get_or-take n (drop 12 ws) i 0 h ∙ get_or-drop 12 ws i 0))

pub mask_past : (ws : List ℕ) (n i : ℕ) → n ≤ i → 0 ≡ get_or (map (λ w. w % 2 ^ 8) (take n (drop 12 ws))) i 0
mask_past ws n i h =
    let xs = map (λ w. w % 2 ^ 8) (take n (drop 12 ws)) in
    let few : length xs ≤ i = omega (arith, length-map (take n (drop 12 ws)) (λ w. w % 2 ^ 8), length-take n (drop 12 ws)) in
    sym (get_or_past xs i 0 few)

-- one place of those that are to be filled: the code's test compares whether it is with whether it is to be
module _ (m : ℕ) (ms : List ℕ) (byte : m < 256) where
  pub fits_here : (k : ℕ) → not (beq (not (eqb m 0)) (ltb 0 k)) ≡ false → filled k (m ∷ ms) ≡ filled (k - 1) ms
  fits_here zero e = grind (arith, nat_tests)
  fits_here (suc k) e = let p : suc k - 1 ≡ k = omega arith in grind (arith, nat_tests)

  pub fails_here : (k : ℕ) → not (beq (not (eqb m 0)) (ltb 0 k)) ≡ true → filled k (m ∷ ms) ≡ false
  fails_here zero e = grind (arith, nat_tests)
  fails_here (suc k) e = grind (arith, nat_tests)

-- what the places hold that are filled
pub filled_masks : (n : ℕ) (ms : List ℕ) → n ≤ length ms → filled n ms ≡ true → (all_masks (take n ms) ≡ true) × (together (take n ms) ≡ together ms)
filled_masks zero [] h e = (refl, refl)
filled_masks zero (m ∷ ms) h e =
    let parts = and_parts (eqb m 0) (filled zero ms) e in
    let rest = filled_masks zero ms (omega arith) parts.1 in
    (refl, rest.1 ∙ ap (λ n. bit_or n (together ms)) (sym (eqb-true m 0 parts.0)))
filled_masks (suc n) [] h e = absurd (let z : ⊥ = omega arith in z)
filled_masks (suc n) (m ∷ ms) h e =
    let parts = and_parts (is_mask m) (filled n ms) e in
    let rest = filled_masks n ms (omega arith) parts.1 in
    (and_from (is_mask m) (all_masks (take n ms)) parts.0 rest.0, ap (bit_or m) rest.1)

-- four places are all there are
pub padded_four : (ms : List ℕ) → length ms ≡ 4 → padded ms ≡ ms
padded_four [] e = absurd (let z : ⊥ = omega arith in z)
padded_four (a ∷ []) e = absurd (let z : ⊥ = omega arith in z)
padded_four (a ∷ b ∷ []) e = absurd (let z : ⊥ = omega arith in z)
padded_four (a ∷ b ∷ c ∷ []) e = absurd (let z : ⊥ = omega arith in z)
padded_four (a ∷ b ∷ c ∷ d ∷ []) e = refl
padded_four (a ∷ b ∷ c ∷ d ∷ m ∷ ms) e = absurd (let z : ⊥ = omega arith in z)

-- four places that hold masks and zeros
pub set_bits_padded : (ms : List ℕ) → length ms ≤ 4 → set_bits (padded ms) ≡ set_bits ms
set_bits_padded [] h = refl
set_bits_padded (a ∷ []) h = refl
set_bits_padded (a ∷ b ∷ []) h = refl
set_bits_padded (a ∷ b ∷ c ∷ []) h = refl
set_bits_padded (a ∷ b ∷ c ∷ d ∷ []) h = refl
set_bits_padded (a ∷ b ∷ c ∷ d ∷ m ∷ ms) h = absurd (let z : ⊥ = omega arith in z)

pub together_padded : (ms : List ℕ) → length ms ≤ 4 → together (padded ms) ≡ together ms
together_padded [] h = refl
together_padded (a ∷ []) h = refl
together_padded (a ∷ b ∷ []) h = refl
together_padded (a ∷ b ∷ c ∷ []) h = refl
together_padded (a ∷ b ∷ c ∷ d ∷ []) h = refl
together_padded (a ∷ b ∷ c ∷ d ∷ m ∷ ms) h = absurd (let z : ⊥ = omega arith in z)

pub few_masks : (ws : List ℕ) → length (masks_in ws) ≤ 4
few_masks ws =
    omega (arith, length-map (take (nodes_in ws) (drop 12 ws)) (λ w. w % 2 ^ 8), length-take (nodes_in ws) (drop 12 ws))

pub take_padded : (ms : List ℕ) → length ms ≤ 4 → take (length ms) (padded ms) ≡ ms
take_padded [] h = refl
take_padded (a ∷ []) h = refl
take_padded (a ∷ b ∷ []) h = refl
take_padded (a ∷ b ∷ c ∷ []) h = refl
take_padded (a ∷ b ∷ c ∷ d ∷ []) h = refl
take_padded (a ∷ b ∷ c ∷ d ∷ m ∷ ms) h = absurd (let z : ⊥ = omega arith in z)

pub filled_padded : (ms : List ℕ) → length ms ≤ 4 → filled (length ms) (padded ms) ≡ all_masks ms
filled_padded [] h = refl
filled_padded (a ∷ []) h = refl
filled_padded (a ∷ b ∷ []) h = refl
filled_padded (a ∷ b ∷ c ∷ []) h = refl
filled_padded (a ∷ b ∷ c ∷ d ∷ []) h = refl
filled_padded (a ∷ b ∷ c ∷ d ∷ m ∷ ms) h = absurd (let z : ⊥ = omega arith in z)
