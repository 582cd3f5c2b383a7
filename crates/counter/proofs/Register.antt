-- The register after bytes, in parts and byte by byte. Assumes nothing.
use Rattle.std.proofs.Common.{◌≡◌, ℕ, zero, suc, ◌+◌, ◌-◌, ◌*◌, ◌/◌, ◌%◌, ◌^◌, ◌<◌, List, [], ◌∷◌, ◌++◌, length, get_or, take, sym, refl, ap, ◌∙◌, append_assoc, append-nil, arith}
use mathlib.Core.List.{flatten}
use lib.Bits.{bit_xor, bit_and, xor_comm, xor_shr, xor_shifted, xor_zero_r, and_mask}
use Rattle.std.proofs.lemmas.Nat.{shr_split}
use Rattle.std.proofs.lemmas.List.{take_more}
use Rattle.counter.specs.Crc.{all_ones, bits, sent, divided, remainder_after, reflected, register_after}
use Rattle.counter.specs.Parts.{PartsJoin, after_each}
use Rattle.counter.proofs.Reflection.{reflected_lt, reflected_twice}
use Rattle.counter.proofs.Division.{shiftsOut, divided_lt, bits_reflected, outs_xor, outs_high}

sent_append : (xs ys : List ℕ) → sent (xs ++ ys) ≡ sent xs ++ sent ys
unfolding sent
sent_append [] ys = refl
sent_append (x ∷ xs) ys = rw (sent_append xs ys) (sym (append_assoc (bits 8 x) (sent xs) (sent ys)))

remainder_append : (r : ℕ) (xs ys : List ℕ) → remainder_after r (xs ++ ys) ≡ remainder_after (remainder_after r xs) ys
unfolding remainder_after
remainder_append r [] ys = refl
remainder_append r (x ∷ xs) ys = remainder_append (divided r x) xs ys

bits_lt : (n b r : ℕ) → r < 2 ^ 32 → remainder_after r (bits n b) < 2 ^ 32
unfolding bits remainder_after
bits_lt zero b r h = h
bits_lt (suc n) b r h = bits_lt n (b / 2) (divided r (b % 2)) (divided_lt r (b % 2) h (omega arith))

sent_lt : (bytes : List ℕ) (r : ℕ) → r < 2 ^ 32 → remainder_after r (sent bytes) < 2 ^ 32
unfolding sent remainder_after
sent_lt [] r h = h
sent_lt (b ∷ bytes) r h =
    rw (remainder_append r (bits 8 b) (sent bytes)) (sent_lt bytes (remainder_after r (bits 8 b)) (bits_lt 8 b r h))

pub register_lt : (c : ℕ) (bytes : List ℕ) → register_after c bytes < 2 ^ 32
unfolding register_after
register_lt c bytes = reflected_lt 32 (remainder_after (reflected 32 c) (sent bytes))

pub register_none : (c : ℕ) → c < 2 ^ 32 → register_after c [] ≡ c
unfolding register_after sent remainder_after
register_none c h = reflected_twice 32 c h

pub register_append :
    (c : ℕ) (xs ys : List ℕ) → register_after c (xs ++ ys) ≡ register_after (register_after c xs) ys
unfolding register_after
register_append c xs ys =
    rw (sent_append xs ys, remainder_append (reflected 32 c) (sent xs) (sent ys))
    (rw (reflected_twice 32 (remainder_after (reflected 32 c) (sent xs)) (sent_lt xs (reflected 32 c) (reflected_lt 32 c))))

-- all eight bits of a byte leave at once
pub register_byte : (c b : ℕ) → c < 2 ^ 32 → register_after c (b ∷ []) ≡ shiftsOut 8 (bit_xor c (b % 256))
unfolding register_after sent
register_byte c b h =
    rw (append-nil (bits 8 b), bits_reflected 8 b (reflected 32 c) (reflected_lt 32 c), reflected_twice 32 c h)

pub register_from_zero : (b : ℕ) → b < 256 → register_after 0 (b ∷ []) ≡ shiftsOut 8 b
register_from_zero b h =
    let whole : b % 256 ≡ b = omega arith in register_byte 0 b (omega arith) ∙ rw whole

-- the low byte alone decides what is added, and the rest moves down
outs_low : (x : ℕ) → shiftsOut 8 x ≡ bit_xor (shiftsOut 8 (x % 256)) (x / 256)
outs_low x =
    let whole : x ≡ bit_xor (x / 256 * 2 ^ 8) (x % 256) = sym (xor_shifted (x / 256) 8 (x % 256) (omega arith) ∙ shr_split x 8) in
    ap (λ (y : ℕ). shiftsOut 8 y) whole
    ∙ rw (outs_xor 8 (x / 256 * 2 ^ 8) (x % 256), outs_high 8 (x / 256)) (xor_comm (x / 256) (shiftsOut 8 (x % 256)))

-- one byte, as the code has it: t is the table's entry
pub register_step :
    (c b t : ℕ) → c < 2 ^ 32 → b < 256 → t ≡ register_after 0 (bit_and (bit_xor c b) 255 ∷ []) → bit_xor t (c / 256) ≡ register_after c (b ∷ [])
register_step c b t hc hb e =
    let x = bit_xor c b in
    let high : x / 256 ≡ c / 256 = xor_shr c b 8 ∙ rw (let z : b / 256 ≡ 0 = omega arith in z) (xor_zero_r (c / 256)) in
    let low : t ≡ shiftsOut 8 (x % 256) = e ∙ rw (and_mask x 8) (register_from_zero (x % 256) (omega arith)) in
    let whole : b % 256 ≡ b = omega arith in
    rw (low, ← high, ← outs_low x) (sym (register_byte c b hc ∙ rw whole))

pub register_more :
    (c : ℕ) (bs : List ℕ) (i : ℕ) → i < length bs →
    register_after c (take (i + 1) bs) ≡ register_after (register_after c (take i bs)) (get_or bs i 0 ∷ [])
register_more c bs i h = rw (take_more bs i 0 h) (register_append c (take i bs) (get_or bs i 0 ∷ []))

-- from any register, however many parts
register_parts : (c : ℕ) (parts : List (List ℕ)) → c < 2 ^ 32 → after_each c parts ≡ register_after c (flatten parts)
unfolding after_each flatten
register_parts c [] h = sym (register_none c h)
register_parts c (part ∷ parts) h =
    register_parts (register_after c part) parts (register_lt c part) ∙ sym (register_append c part (flatten parts))

pub parts_join : PartsJoin
parts_join = record {
  two = register_append;
  any = λ parts. ap (λ (x : ℕ). all_ones - x) (register_parts all_ones parts (omega arith));
}
