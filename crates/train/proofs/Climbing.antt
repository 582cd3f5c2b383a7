-- Numbers that first occur in their order from 1 on have no gap. Assumes nothing.
use Rattle.std.proofs.Common.{◌≡◌, ℕ, ◌+◌, ◌<◌, ◌≤◌, max, true, ◌&&◌, leb, List, [], ◌∷◌, refl, ap, ◌∙◌, subst, ⊎_elim, arith}
use Rattle.std.proofs.lemmas.Bool.{leb-true, le-leb, and_parts, and_from, cases_lt}
use Rattle.train.specs.Truth.{In, here, there}
use Rattle.train.specs.Numbers.{Rising, climbs}
use Rattle.train.proofs.Members.{not_in, in_cases, all_in}

pub climb : (top x t : ℕ) (xs : List ℕ) → 1 ≤ x → x ≤ top + 1 → max top x ≡ t → climbs t xs ≡ true → climbs top (x ∷ xs) ≡ true
climb top x t xs h k m e = and_from _ _ (and_from _ _ (le-leb 1 x h) (le-leb x (top + 1) k)) (ap (λ n. climbs n xs) m ∙ e)

-- each number above the highest before, up to any that occurs, occurs
climbs_each : (top : ℕ) (xs : List ℕ) → climbs top xs ≡ true → (x k : ℕ) → In x xs → top < k → k ≤ x → In k xs
climbs_each top [] e x k i a b = absurd (not_in x i)
climbs_each top (y ∷ xs) e x k i a b =
    let p = and_parts (leb 1 y && leb y (top + 1)) (climbs (max top y) xs) e in
    let q : y ≤ top + 1 = leb-true y (top + 1) (and_parts (leb 1 y) (leb y (top + 1)) p.0).1 in
    ⊎_elim (λ h. ⊎_elim (λ f. absurd (omega arith)) (λ j. there (climbs_each (max top y) xs p.1 x k j (omega arith) b)) (in_cases x y xs i))
    (λ h. let f : y ≡ k = omega arith in subst (λ n. In n (y ∷ xs)) f here) (cases_lt y k)

-- so numbers from 1 on have no gap
pub climbs_no_gap : (xs : List ℕ) → climbs 0 xs ≡ true → (x k : ℕ) → In x xs → 1 ≤ k → k ≤ x → In k xs
climbs_no_gap xs e x k i a b = climbs_each 0 xs e x k i (omega arith) b

-- numbers that rise without a gap first occur in their order
pub rising_climbs : (top : ℕ) (xs : List ℕ) → Rising xs → ((x : ℕ) → In x xs → (1 ≤ x) × (top ≤ x)) → ((k x : ℕ) → In x xs → top < k → k ≤ x → In k xs)
    → climbs top xs ≡ true
rising_climbs top [] r low each = refl
rising_climbs top (x ∷ xs) r low each =
    let h = low x here in
    let later : In (top + 1) xs → x ≤ top + 1 = λ i. all_in (λ y. x ≤ y) (top + 1) xs i r.0 in
    let next : x ≤ top + 1 =
    ⊎_elim (λ j. ⊎_elim (λ e. omega arith) later (in_cases (top + 1) x xs (each (top + 1) x here (omega arith) (omega arith)))) (λ j. j) (cases_lt (top + 1) x) in
    climb top x x xs h.0 next (omega (arith, h.1))
    (rising_climbs x xs r.1 (λ y i. ((low y (there i)).0, all_in (λ z. x ≤ z) y xs i r.0))
    (λ k y i a b. ⊎_elim (λ e. absurd (omega arith)) (λ j. j) (in_cases k x xs (each k y (there i) (omega (arith, h.1)) b))))
