-- The division in the register's order: a bit at a time, and a byte at a time by what the table has. Assumes nothing.
use Rattle.std.proofs.Common.{◌≡◌, ℕ, zero, suc, ◌+◌, ◌*◌, ◌/◌, ◌%◌, ◌^◌, ◌<◌, sym, refl, ap, ◌∙◌, mul_assoc, pow-suc, arith, pow_pos}
use lib.Arith.{mod-mul}
use lib.Bits.{bit_xor, xor_assoc, xor_comm, xor_lt, xor_shr, xor_mod, xor_shifted, xor_zero_r}
use Rattle.counter.specs.Crc.{generator, bits, divided, remainder_after, reflected}
use Rattle.counter.proofs.Reflection.{reflected_xor, reflected_top, reflected_double}

-- the generator in the register's order
abbrev pub divisor : ℕ
divisor = 0xEDB88320

-- the lowest bit leaves the register, and where it was 1 the divisor is taken off
unfoldable pub shiftOut : ℕ → ℕ
shiftOut c = bit_xor (c / 2) (divisor * (c % 2))

unfoldable pub shiftsOut : ℕ → ℕ → ℕ
shiftsOut zero c = c
shiftsOut (suc n) c = shiftsOut n (shiftOut c)

-- the divisor is the generator, reflected
times_reflected : (t : ℕ) → t < 2 → reflected 32 (generator * t) ≡ divisor * t
unfolding reflected
times_reflected zero h = refl
times_reflected (suc zero) h = refl
times_reflected (suc (suc t)) h = absurd (let f : ⊥ = omega arith in f)

differ_lt : (r bit : ℕ) → r < 2 ^ 32 → bit < 2 → bit_xor (r / 2 ^ 31) bit < 2
differ_lt r bit hr hb = xor_lt 1 (r / 2 ^ 31) bit (omega arith) hb

pub divided_lt : (r bit : ℕ) → r < 2 ^ 32 → bit < 2 → divided r bit < 2 ^ 32
unfolding divided
divided_lt r bit hr hb =
    xor_lt 32 (r * 2 % 2 ^ 32) (generator * bit_xor (r / 2 ^ 31) bit) (omega arith) (omega (arith, differ_lt r bit hr hb))

-- a step of the division is a bit that leaves the register
divided_reflected : (r bit : ℕ) → r < 2 ^ 32 → bit < 2 → reflected 32 (divided r bit) ≡ shiftOut (bit_xor (reflected 32 r) bit)
unfolding divided shiftOut
divided_reflected r bit hr hb =
    let c = reflected 32 r in
    let top : c ≡ reflected 31 r * 2 + r / 2 ^ 31 % 2 = reflected_top 31 r in
    let up : reflected 32 (r * 2 % 2 ^ 32) ≡ c / 2 = reflected_double 31 r ∙ omega arith in
    let rest : bit_xor c bit / 2 ≡ c / 2 = xor_shr c bit 1 ∙ rw (let z : bit / 2 ≡ 0 = omega arith in z) (xor_zero_r (c / 2)) in
    let left : c % 2 ≡ r / 2 ^ 31 = omega arith in
    let whole : bit % 2 ≡ bit = omega arith in
    let low : bit_xor c bit % 2 ≡ bit_xor (r / 2 ^ 31) bit = xor_mod c bit 1 ∙ rw (left, whole) in
    reflected_xor 32 (r * 2 % 2 ^ 32) (generator * bit_xor (r / 2 ^ 31) bit)
    ∙ rw (up, times_reflected (bit_xor (r / 2 ^ 31) bit) (differ_lt r bit hr hb), rest, low)

xor_swap : (a b p q : ℕ) → bit_xor (bit_xor a b) (bit_xor p q) ≡ bit_xor (bit_xor a p) (bit_xor b q)
xor_swap a b p q =
    xor_assoc a b (bit_xor p q)
    ∙ ap (λ (x : ℕ). bit_xor a x) (sym (xor_assoc b p q) ∙ ap (λ (x : ℕ). bit_xor x q) (xor_comm b p) ∙ xor_assoc p b q)
    ∙ sym (xor_assoc a p (bit_xor b q))

times_xor : (x y : ℕ) → x < 2 → y < 2 → divisor * bit_xor x y ≡ bit_xor (divisor * x) (divisor * y)
times_xor zero y hx hy = refl
times_xor (suc zero) zero hx hy = refl
times_xor (suc zero) (suc zero) hx hy = refl
times_xor (suc zero) (suc (suc y)) hx hy = absurd (let f : ⊥ = omega arith in f)
times_xor (suc (suc x)) y hx hy = absurd (let f : ⊥ = omega arith in f)

-- shifting out is linear over `bit_xor`
out_xor : (a b : ℕ) → shiftOut (bit_xor a b) ≡ bit_xor (shiftOut a) (shiftOut b)
unfolding shiftOut
out_xor a b =
    rw (xor_shr a b 1, xor_mod a b 1, times_xor (a % 2) (b % 2) (omega arith) (omega arith))
    (xor_swap (a / 2) (b / 2) (divisor * (a % 2)) (divisor * (b % 2)))

pub outs_xor : (n a b : ℕ) → shiftsOut n (bit_xor a b) ≡ bit_xor (shiftsOut n a) (shiftsOut n b)
unfolding shiftsOut
outs_xor zero a b = refl
outs_xor (suc n) a b = ap (λ (x : ℕ). shiftsOut n x) (out_xor a b) ∙ outs_xor n (shiftOut a) (shiftOut b)

-- bits above those that leave move down
out_even : (y : ℕ) → shiftOut (y * 2) ≡ y
unfolding shiftOut
out_even y =
    let half : y * 2 / 2 ≡ y = omega arith in
    let low : y * 2 % 2 ≡ 0 = omega arith in
    rw (half, low) (xor_zero_r y)

pub outs_high : (n h : ℕ) → shiftsOut n (h * 2 ^ n) ≡ h
unfolding shiftsOut
outs_high zero h = omega arith
outs_high (suc n) h =
    rw (pow-suc 2 n, ← mul_assoc h (2 ^ n) 2, out_even (h * 2 ^ n)) (outs_high n h)

-- bits sent one by one are as if they were added to the register at once
pub bits_reflected :
    (n b r : ℕ) → r < 2 ^ 32 → reflected 32 (remainder_after r (bits n b)) ≡ shiftsOut n (bit_xor (reflected 32 r) (b % 2 ^ n))
unfolding bits remainder_after shiftsOut
bits_reflected zero b r h = rw (let z : b % 1 ≡ 0 = omega arith in z) (sym (xor_zero_r (reflected 32 r)))
bits_reflected (suc n) b r h =
    let c = reflected 32 r in
    let q = b / 2 % 2 ^ n in
    let sum : b % 2 ^ suc n ≡ q * 2 + b % 2 = rw (pow-suc 2 n) (mod-mul b (pow_pos n) (omega arith)) in
    let parts : b % 2 ^ suc n ≡ bit_xor (q * 2) (b % 2) = sum ∙ sym (xor_shifted q 1 (b % 2) (omega arith)) in
    bits_reflected n (b / 2) (divided r (b % 2)) (divided_lt r (b % 2) h (omega arith))
    ∙ rw (divided_reflected r (b % 2) h (omega arith), parts, xor_comm (q * 2) (b % 2), ← xor_assoc c (b % 2) (q * 2))
    (rw (out_xor (bit_xor c (b % 2)) (q * 2), out_even q))
