-- Where the report of a MAC stands, and marks. Assumes nothing.
use Rattle.std.proofs.Common.{◌≡◌, ℕ, zero, suc, ◌+◌, ◌<◌, Bool, true, false, eqb, ◌⊎◌, List, [], ◌∷◌, map, length, get_or, set, Some, sym, refl, ap, ◌∙◌, subst, inl, inr, arith}
use Rattle.std.proofs.lemmas.Bool.{eqb-true, eqb-false, cond-true, cond-false, cases_Bool, both_ways}
use Rattle.std.specs.List.{AllByRecursion}
use Rattle.report.specs.Reports.{Report}
use Rattle.train.specs.Truth.{In, here, there}
use Rattle.train.specs.Rules.{Different}
use Rattle.train.proofs.Members.{not_in, in_map, all_in, in_cases as cases_in}
use Rattle.fitting.specs.Neighbours.{blank, place_of}
use Rattle.fitting.specs.Walk.{unmet}

-- each report has another MAC
abbrev pub Own : List Report → Type 0
Own rs = Different (map (λ r. r.mac) rs)

pub in_cases : {A : Type 0} {y : A} {ys : List A} {x : A} → In x (y ∷ ys) → (x ≡ y) ⊎ In x ys
in_cases {y = y} {ys = ys} {x = x} i = cases_in x y ys i

pub in_none : {A : Type 0} {x : A} → In x [] → ⊥
in_none {x = x} i = not_in x i

pub in_get_or : {A : Type 0} (d : A) (xs : List A) (i : ℕ) → i < length xs → In (get_or xs i d) xs
in_get_or d [] i h = absurd (omega arith)
in_get_or d (x ∷ xs) zero h = here
in_get_or d (x ∷ xs) (suc i) h = there (in_get_or d xs i (omega arith))

pub at_in : {A : Type 0} (d : A) (x : A) (xs : List A) → In x xs → (i : ℕ) × (i < length xs) × (get_or xs i d ≡ x)
at_in d x [] i = absurd (in_none i)
at_in d x (y ∷ ys) i = elim (in_cases i) [
  | inl e ↦ (0, omega arith, sym e)
  | inr j ↦ (let h = at_in d x ys j in (suc h.0, (let w = h.1 in omega arith), h.2))
]

-- two that are equal stand both in
pub in_same : {A : Type 0} {x y : A} {xs : List A} → x ≡ y → In x xs → In y xs
in_same {xs = xs} e i = subst (λ v. In v xs) e i

-- what a look-up found
pub found : (m : ℕ) (rs : List Report) (k j : ℕ) → place_of m k rs ≡ Some j → (i : ℕ) × (j ≡ k + i) × (i < length rs) × ((get_or rs i blank).mac ≡ m)
found m [] k j e = absurd (let z : ◌≡◌ {A = ℕ} 0 1 = cc in omega arith)
found m (r ∷ rs) k j e = elim (cases_Bool (eqb r.mac m)) [
  | inl t ↦ (let s : Some k ≡ Some j = sym (cond-true _ (Some k) (place_of m (k + 1) rs) t) ∙ e in
      let q : k ≡ j = cc in (0, omega arith, omega arith, eqb-true r.mac m t))
  | inr f ↦ (let h = found m rs (k + 1) j (sym (cond-false _ (Some k) (place_of m (k + 1) rs) f) ∙ e) in
      (suc h.0, (let w = h.1 in omega arith), (let w = h.2 in omega arith), h.3))
]

pub found_at : (m : ℕ) (rs : List Report) (j : ℕ) → place_of m 0 rs ≡ Some j → (j < length rs) × ((get_or rs j blank).mac ≡ m)
found_at m rs j e =
    let h = found m rs 0 j e in
    let q : h.0 ≡ j = let w = h.1 in omega arith in
    subst (λ i. (i < length rs) × ((get_or rs i blank).mac ≡ m)) q (h.2, h.3)

-- a report that is held is found
pub finds : (s : Report) (rs : List Report) (k : ℕ) → In s rs → (j : ℕ) × (place_of s.mac k rs ≡ Some j)
finds s [] k i = absurd (in_none i)
finds s (r ∷ rs) k i = elim (cases_Bool (eqb r.mac s.mac)) [
  | inl t ↦ (k, cond-true _ (Some k) (place_of s.mac (k + 1) rs) t)
  | inr f ↦ (elim (in_cases i) [
    | inl e ↦ absurd (eqb-false r.mac s.mac f (ap (λ v. v.mac) (sym e)))
    | inr j ↦ (let h = finds s rs (k + 1) j in (h.0, cond-false _ (Some k) (place_of s.mac (k + 1) rs) f ∙ h.1))
  ])
]

-- another report has another MAC
other_mac : (m : ℕ) (rs : List Report) (s : Report) → AllByRecursion (λ n. m ≡ n → ⊥) (map (λ r. r.mac) rs) → In s rs → m ≡ s.mac → ⊥
other_mac m rs s h i = all_in (λ n. m ≡ n → ⊥) s.mac (map (λ r. r.mac) rs) (in_map (λ r. r.mac) s rs i) h

-- a MAC has one place
pub one_place : (rs : List Report) → Own rs → (i j : ℕ) → i < length rs → j < length rs → (get_or rs i blank).mac ≡ (get_or rs j blank).mac → i ≡ j
one_place [] u i j hi hj e = absurd (omega arith)
one_place (r ∷ rs) u zero zero hi hj e = refl
one_place (r ∷ rs) u zero (suc j) hi hj e = absurd (other_mac r.mac rs (get_or rs j blank) u.0 (in_get_or blank rs j (omega arith)) e)
one_place (r ∷ rs) u (suc i) zero hi hj e = absurd (other_mac r.mac rs (get_or rs i blank) u.0 (in_get_or blank rs i (omega arith)) (sym e))
one_place (r ∷ rs) u (suc i) (suc j) hi hj e = ap suc (one_place rs u.1 i j (omega arith) (omega arith) e)

-- and one report
pub one_each : (rs : List Report) → Own rs → (r s : Report) → In r rs → In s rs → r.mac ≡ s.mac → r ≡ s
one_each rs u r s i j e =
    let p = at_in blank r rs i in
    let q = at_in blank s rs j in
    let same : p.0 ≡ q.0 = one_place rs u p.0 q.0 p.1 q.1 (ap (λ v. v.mac) p.2 ∙ e ∙ sym (ap (λ v. v.mac) q.2)) in
    sym p.2 ∙ ap (λ k. get_or rs k blank) same ∙ q.2

-- the report found under the MAC of one that is held is that one
pub found_same : (rs : List Report) → Own rs → (s : Report) (j : ℕ) → In s rs → place_of s.mac 0 rs ≡ Some j → get_or rs j blank ≡ s
found_same rs u s j i e =
    let h = found_at s.mac rs j e in one_each rs u (get_or rs j blank) s (in_get_or blank rs j h.0) i h.1

-- marks: past the end counts as met
pub within_marks : (bs : List Bool) (i : ℕ) → get_or bs i true ≡ false → i < length bs
within_marks [] i e = absurd (both_ways true e refl)
within_marks (b ∷ bs) zero e = omega arith
within_marks (b ∷ bs) (suc i) e = let h = within_marks bs i e in omega arith

pub mark_same : (bs : List Bool) (i : ℕ) → get_or (set bs i true) i true ≡ true
mark_same [] i = refl
mark_same (b ∷ bs) zero = refl
mark_same (b ∷ bs) (suc i) = mark_same bs i

pub mark_other : (bs : List Bool) (i k : ℕ) → (k ≡ i → ⊥) → get_or (set bs i true) k true ≡ get_or bs k true
mark_other [] i k n = refl
mark_other (b ∷ bs) zero zero n = absurd (n refl)
mark_other (b ∷ bs) zero (suc k) n = refl
mark_other (b ∷ bs) (suc i) zero n = refl
mark_other (b ∷ bs) (suc i) (suc k) n = mark_other bs i k (λ e. n (ap suc e))

-- a mark more is one unmet less
pub unmet_less : (bs : List Bool) (i : ℕ) → get_or bs i true ≡ false → unmet bs ≡ suc (unmet (set bs i true))
unmet_less [] i e = absurd (both_ways true e refl)
unmet_less (true ∷ bs) zero e = absurd (both_ways true e refl)
unmet_less (false ∷ bs) zero e = refl
unmet_less (true ∷ bs) (suc i) e = unmet_less bs i e
unmet_less (false ∷ bs) (suc i) e = ap suc (unmet_less bs i e)

pub unmet_none : (bs : List Bool) → ((k : ℕ) → get_or bs k true ≡ false → ⊥) → unmet bs ≡ 0
unmet_none [] n = refl
unmet_none (true ∷ bs) n = unmet_none bs (λ k. n (suc k))
unmet_none (false ∷ bs) n = absurd (n 0 refl)

pub unmarked : (rs : List Report) → unmet (map (λ _. false) rs) ≡ length rs
unmarked [] = refl
unmarked (r ∷ rs) = ap suc (unmarked rs)

pub unmarked_at : (rs : List Report) (k : ℕ) → k < length rs → get_or (map (λ _. false) rs) k true ≡ false
unmarked_at [] k h = absurd (omega arith)
unmarked_at (r ∷ rs) zero h = refl
unmarked_at (r ∷ rs) (suc k) h = unmarked_at rs k (omega arith)

pub unmarked_within : (rs : List Report) (k : ℕ) → get_or (map (λ _. false) rs) k true ≡ false → k < length rs
unmarked_within [] k e = absurd (both_ways true e refl)
unmarked_within (r ∷ rs) zero e = omega arith
unmarked_within (r ∷ rs) (suc k) e = let h = unmarked_within rs k e in omega arith
