-- Numbers that run from 1 without a gap. Assumes nothing.
use Rattle.std.proofs.Common.{◌≡◌, ℕ, ◌+◌, ◌≤◌, max, true, ◌&&◌, leb, List, [], ◌∷◌, ◌++◌, length, refl, arith}
use Rattle.std.proofs.lemmas.Bool.{and_parts, and_from, le-leb, leb-true}
use Rattle.train.specs.Numbers.{climbs}
use Rattle.directory.specs.Asked.{highest}

pub highest_push : (t : ℕ) (xs : List ℕ) (x : ℕ) → highest t (xs ++ x ∷ []) ≡ max (highest t xs) x
highest_push t [] x = refl
highest_push t (y ∷ ys) x = highest_push (max t y) ys x

pub highest_above : (t : ℕ) (xs : List ℕ) → t ≤ highest t xs
highest_above t [] = omega arith
highest_above t (y ∷ ys) = omega (arith, highest_above (max t y) ys)

-- the first number, and the others
pub climbs_first :
    (t x : ℕ) (xs : List ℕ) → climbs t (x ∷ xs) ≡ true → (1 ≤ x) × (x ≤ t + 1) × (climbs (max t x) xs ≡ true)
climbs_first t x xs e =
    let p = and_parts (leb 1 x && leb x (t + 1)) (climbs (max t x) xs) e in
    let q = and_parts (leb 1 x) (leb x (t + 1)) p.0 in
    (leb-true 1 x q.0, leb-true x (t + 1) q.1, p.1)

pub climbs_push :
    (t : ℕ) (xs : List ℕ) (x : ℕ) → climbs t xs ≡ true → 1 ≤ x → x ≤ highest t xs + 1 → climbs t (xs ++ x ∷ []) ≡ true
climbs_push t [] x e one next =
    and_from (leb 1 x && leb x (t + 1)) true (and_from (leb 1 x) (leb x (t + 1)) (le-leb 1 x one) (le-leb x (t + 1) next)) refl
climbs_push t (y ∷ ys) x e one next =
    let p = and_parts (leb 1 y && leb y (t + 1)) (climbs (max t y) ys) e in
    and_from (leb 1 y && leb y (t + 1)) (climbs (max t y) (ys ++ x ∷ [])) p.0 (climbs_push (max t y) ys x p.1 one next)

-- there are at least as many as the highest says
pub climbs_few : (t : ℕ) (xs : List ℕ) → climbs t xs ≡ true → highest t xs ≤ t + length xs
climbs_few t [] e = omega arith
climbs_few t (x ∷ xs) e =
    let p = climbs_first t x xs e in
    omega (arith, climbs_few (max t x) xs p.2)
