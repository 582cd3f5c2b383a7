-- Numerals with no plus in front. Assumes nothing.
use Rattle.std.proofs.Common.{◌≡◌, ℕ, ◌<◌, ◌≤◌, true, false, cond, eqb, List, [], ◌∷◌, get_or, drop, ap, subst, arith}
use Rattle.std.proofs.lemmas.Bool.{eqb-true}
use Rattle.std.specs.Str.Parse.{IsNumeral, without_leading_plus}
use Rattle.std.specs.Char.{digit_value}

pub plus_is_no_digit : (base : ℕ) → base ≤ 36 → (bs : List ℕ) → eqb (get_or bs 0 0) 43 ≡ true → IsNumeral base bs → ⊥
plus_is_no_digit base few [] e n = let h = n.0 in omega arith
plus_is_no_digit base few (c ∷ cs) e n =
    let big : 36 < base = subst (λ d. digit_value d < base) (eqb-true c 43 e) n.1.0 in
    omega arith

pub no_plus : (bs : List ℕ) → eqb (get_or bs 0 0) 43 ≡ false → without_leading_plus bs ≡ bs
no_plus bs e = ap (λ b. drop (cond b 1 0) bs) e
