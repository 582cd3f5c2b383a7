-- What `reflected` does to a number's bits. Assumes nothing.
use Rattle.std.proofs.Common.{◌≡◌, ℕ, zero, suc, ◌+◌, ◌*◌, ◌/◌, ◌%◌, ◌^◌, ◌<◌, sym, refl, ap, ◌∙◌, mod-lt, mul_assoc, pow-suc, arith, pow_pos}
use native.Mathlib.Nat.{pow-succ', div-div-eq-div-mul}
use lib.Arith.{digits_lt, digits_div, digits_mod, mod-mul}
use lib.Bits.{bit_xor, xor_shr, xor_mod, xor_block}
use Rattle.counter.specs.Crc.{reflected}

pub reflected_lt : (k n : ℕ) → reflected k n < 2 ^ k
unfolding reflected
reflected_lt zero n = omega arith
reflected_lt (suc k) n =
    omega (arith, digits_lt {m = 2} (mod-lt n {m = 2} (omega arith)) (reflected_lt k (n / 2)), pow-suc 2 k)

pub reflected_xor : (k a b : ℕ) → reflected k (bit_xor a b) ≡ bit_xor (reflected k a) (reflected k b)
unfolding reflected
reflected_xor zero a b = refl
reflected_xor (suc k) a b =
    rw (xor_mod a b 1, xor_shr a b 1, reflected_xor k (a / 2) (b / 2))
    (sym (xor_block k (a % 2) (b % 2) (reflected k (a / 2)) (reflected k (b / 2)) (reflected_lt k (a / 2)) (reflected_lt k (b / 2))))

-- bits above the width do not count
pub reflected_mod : (k n : ℕ) → reflected k (n % 2 ^ k) ≡ reflected k n
unfolding reflected
reflected_mod zero n = refl
reflected_mod (suc k) n =
    let parts : n % 2 ^ suc k ≡ n / 2 % 2 ^ k * 2 + n % 2 = rw (pow-suc 2 k) (mod-mul n (pow_pos k) (omega arith)) in
    let low : n % 2 ^ suc k % 2 ≡ n % 2 = omega arith in
    let high : n % 2 ^ suc k / 2 ≡ n / 2 % 2 ^ k = omega arith in
    rw (low, high, reflected_mod k (n / 2))

-- the top bit comes out lowest
pub reflected_top : (k n : ℕ) → reflected (suc k) n ≡ reflected k n * 2 + n / 2 ^ k % 2
unfolding reflected
reflected_top zero n = omega arith
reflected_top (suc k) n =
    let top : n / 2 / 2 ^ k ≡ n / 2 ^ suc k = rw (pow-succ' 2 k) (div-div-eq-div-mul n 2 (2 ^ k)) in
    let shifted : n % 2 * 2 ^ suc k ≡ n % 2 * 2 ^ k * 2 = rw (pow-suc 2 k) (sym (mul_assoc (n % 2) (2 ^ k) 2)) in
    omega (arith, reflected_top k (n / 2), ap (λ (x : ℕ). x % 2) top)

-- a move up by a place is a move down of what is reflected
pub reflected_double : (k n : ℕ) → reflected (suc k) (n * 2 % 2 ^ suc k) ≡ reflected k n
unfolding reflected
reflected_double k n =
    let parts : n * 2 % 2 ^ suc k ≡ n * 2 / 2 % 2 ^ k * 2 + n * 2 % 2 = rw (pow-suc 2 k) (mod-mul (n * 2) (pow_pos k) (omega arith)) in
    let whole : n * 2 / 2 ≡ n = omega arith in
    let low : n * 2 % 2 ^ suc k % 2 ≡ 0 = omega arith in
    let high : n * 2 % 2 ^ suc k / 2 ≡ n % 2 ^ k = rw whole at (let e : n * 2 % 2 ^ suc k / 2 ≡ n * 2 / 2 % 2 ^ k = omega arith in e) in
    rw (low, high, reflected_mod k n) (omega arith)

pub reflected_twice : (k n : ℕ) → n < 2 ^ k → reflected k (reflected k n) ≡ n
unfolding reflected
reflected_twice zero n h = omega arith
reflected_twice (suc k) n h =
    let m = n % 2 * 2 ^ k + reflected k (n / 2) in
    let half : n / 2 < 2 ^ k = omega (arith, pow-suc 2 k) in
    let low : m % 2 ^ k ≡ reflected k (n / 2) = digits_mod (n % 2) (reflected_lt k (n / 2)) in
    let top : m / 2 ^ k ≡ n % 2 = digits_div (n % 2) (reflected_lt k (n / 2)) in
    let rest : reflected k m ≡ n / 2 = sym (reflected_mod k m) ∙ ap (λ (x : ℕ). reflected k x) low ∙ reflected_twice k (n / 2) half in
    omega (arith, reflected_top k m, ap (λ (x : ℕ). x % 2) top)
