-- Numbers joined by `|`. Assumes nothing.
use Rattle.std.proofs.Common.{◌≡◌, ℕ, zero, suc, ◌+◌, ◌*◌, ◌/◌, ◌%◌, ◌^◌, ◌<◌, refl, sym, ap, ◌∙◌, mod-eq_of_lt, mul_assoc, add-mul, arith}
use lib.Arith.{bin_ind}
use lib.Bits.{bit_or, or_shr, or_mod}
use Rattle.std.proofs.lemmas.Nat.{or_shifted, pow-add, shl_below}

pub two_parts : (a b k : ℕ) → a * 2 ^ k < 2 ^ 64 → b < 2 ^ k → bit_or (a * 2 ^ k % 2 ^ 64) b ≡ a * 2 ^ k + b
two_parts a b k fits low = ap (λ n. bit_or n b) (mod-eq_of_lt fits) ∙ or_shifted a k b low

pub three_parts :
    (a b c j k : ℕ) → a * 2 ^ (j + k) < 2 ^ 64 → b * 2 ^ k < 2 ^ 64 → b < 2 ^ j → c < 2 ^ k
    → bit_or (bit_or (a * 2 ^ (j + k) % 2 ^ 64) (b * 2 ^ k % 2 ^ 64)) c ≡ a * 2 ^ (j + k) + b * 2 ^ k + c
three_parts a b c j k fits_a fits_b low_b low_c =
    let joined : a * 2 ^ (j + k) + b * 2 ^ k ≡ (a * 2 ^ j + b) * 2 ^ k =
    ap (λ n. n + b * 2 ^ k) (ap (λ n. a * n) (pow-add 2 j k) ∙ sym (mul_assoc a (2 ^ j) (2 ^ k))) ∙ sym (add-mul (a * 2 ^ j) b (2 ^ k))
    in
    ap (λ n. bit_or (bit_or (a * 2 ^ (j + k) % 2 ^ 64) n) c) (mod-eq_of_lt fits_b)
    ∙ ap (λ n. bit_or n c) (two_parts a (b * 2 ^ k) (j + k) fits_a (shl_below b j k low_b) ∙ joined)
    ∙ or_shifted (a * 2 ^ j + b) k c low_c
    ∙ ap (λ n. n + c) (sym joined)

by_digits : (a b : ℕ) → a / 2 ≡ b / 2 → a % 2 ≡ b % 2 → a ≡ b
by_digits a b high low = omega arith

digit_assoc : (x y z : ℕ) → x < 2 → y < 2 → z < 2 → bit_or (bit_or x y) z ≡ bit_or x (bit_or y z)
digit_assoc zero y z hx hy hz = refl
digit_assoc (suc zero) zero z hx hy hz = refl
digit_assoc (suc zero) (suc zero) zero hx hy hz = refl
digit_assoc (suc zero) (suc zero) (suc zero) hx hy hz = refl
digit_assoc (suc zero) (suc zero) (suc (suc z)) hx hy hz = absurd (let n : ⊥ = omega arith in n)
digit_assoc (suc zero) (suc (suc y)) z hx hy hz = absurd (let n : ⊥ = omega arith in n)
digit_assoc (suc (suc x)) y z hx hy hz = absurd (let n : ⊥ = omega arith in n)

pub or_assoc : (a b c : ℕ) → bit_or (bit_or a b) c ≡ bit_or a (bit_or b c)
or_assoc =
    bin_ind (λ (n : ℕ). (b c : ℕ) → bit_or (bit_or n b) c ≡ bit_or n (bit_or b c)) (λ b c. refl)
    (λ n ih b c. by_digits _ _
    (or_shr (bit_or n b) c 1 ∙ ap (λ (x : ℕ). bit_or x (c / 2)) (or_shr n b 1) ∙ ih (b / 2) (c / 2)
    ∙ sym (or_shr n (bit_or b c) 1 ∙ ap (bit_or (n / 2)) (or_shr b c 1)))
    (or_mod (bit_or n b) c 1 ∙ ap (λ (x : ℕ). bit_or x (c % 2)) (or_mod n b 1)
    ∙ digit_assoc (n % 2) (b % 2) (c % 2) (omega arith) (omega arith) (omega arith)
    ∙ sym (or_mod n (bit_or b c) 1 ∙ ap (bit_or (n % 2)) (or_mod b c 1))))
