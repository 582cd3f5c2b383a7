-- The orders of numbers and of pairs are total, and so is an order by a part of a key. Assumes nothing.
use Rattle.std.proofs.Common.{◌≡◌, ℕ, ◌^◌, ◌<◌, Ordering, ap, ◌∙◌, arith}
use Rattle.std.proofs.lemmas.Bool.Decides.{nat_tests}
use Rattle.keyed.specs.Orders.{Total, numbers, pairs, whole}

pub total_numbers : Total numbers
total_numbers = record {
  itself = λ a. grind (arith, nat_tests);
  same = λ a b e. grind (arith, nat_tests);
  exchanged = λ a b. grind (arith, nat_tests);
  carries = λ a b c e f. grind (arith, nat_tests);
}

same_pair : (a b : ℕ × ℕ) → a.0 ≡ b.0 → a.1 ≡ b.1 → a ≡ b
same_pair a b first second = ap (λ (n : ℕ). (n, a.1)) first ∙ ap (λ (n : ℕ). (b.0, n)) second

pub total_pairs : Total pairs
total_pairs = record {
  itself = λ a. grind (arith, nat_tests);
  same = λ a b e. same_pair a b (grind (arith, nat_tests)) (grind (arith, nat_tests));
  exchanged = λ a b. grind (arith, nat_tests);
  carries = λ a b c e f. grind (arith, nat_tests);
}

-- keys compared by a part that tells them apart
pub total_by : {K A : Type 0} (part : K → A) (order : A → A → Ordering) → Total order → ((a b : K) → part a ≡ part b → a ≡ b) → Total (λ (a b : K). order (part a) (part b))
total_by part order laws apart = record {
  itself = λ a. laws.itself (part a);
  same = λ a b e. apart a b (laws.same (part a) (part b) e);
  exchanged = λ a b. laws.exchanged (part a) (part b);
  carries = λ a b c. laws.carries (part a) (part b) (part c);
}

-- pairs of halves compare as one number
pub pairs_whole : (a b : ℕ × ℕ) → a.1 < 2 ^ 64 → b.1 < 2 ^ 64 → pairs a b ≡ numbers (whole a) (whole b)
pairs_whole a b low₁ low₂ = grind (arith, nat_tests)
