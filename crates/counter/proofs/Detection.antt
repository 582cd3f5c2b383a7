-- Rows that differ in one byte have different CRCs, since every step of the register can be undone. Assumes nothing.
use Rattle.std.proofs.Common.{◌≡◌, ℕ, zero, suc, ◌-◌, ◌*◌, ◌/◌, ◌%◌, ◌^◌, ◌<◌, List, [], ◌∷◌, ◌++◌, sym, ap, ◌∙◌, arith}
use lib.Bits.{bit_xor, xor_assoc, xor_comm, xor_lt, xor_shr, xor_self, xor_zero_r}
use Rattle.counter.specs.Crc.{all_ones, register_after}
use Rattle.counter.specs.Parts.{DetectsOneByte}
use Rattle.counter.proofs.Division.{divisor, shiftOut, shiftsOut}
use Rattle.counter.proofs.Register.{register_lt, register_none, register_append, register_byte}

xor_back : (a b : ℕ) → bit_xor (bit_xor a b) b ≡ a
xor_back a b = xor_assoc a b b ∙ rw (xor_self b) (xor_zero_r a)

xor_same : (a b p : ℕ) → bit_xor a p ≡ bit_xor b p → a ≡ b
xor_same a b p e = sym (xor_back a p) ∙ ap (λ (x : ℕ). bit_xor x p) e ∙ xor_back b p

out_lt : (c : ℕ) → c < 2 ^ 32 → shiftOut c < 2 ^ 32
unfolding shiftOut
out_lt c h = xor_lt 32 (c / 2) (divisor * (c % 2)) (omega arith) (omega arith)

-- the highest bit says whether the divisor was taken off
out_top : (c : ℕ) → c < 2 ^ 32 → shiftOut c / 2 ^ 31 ≡ c % 2
unfolding shiftOut
out_top c h =
    let high : c / 2 / 2 ^ 31 ≡ 0 = omega arith in
    let whole : divisor * (c % 2) / 2 ^ 31 ≡ c % 2 = omega arith in
    xor_shr (c / 2) (divisor * (c % 2)) 31 ∙ rw (high, whole)

out_same : (c d : ℕ) → c < 2 ^ 32 → d < 2 ^ 32 → shiftOut c ≡ shiftOut d → c ≡ d
unfolding shiftOut
out_same c d hc hd e =
    let low : c % 2 ≡ d % 2 = sym (out_top c hc) ∙ ap (λ (x : ℕ). x / 2 ^ 31) e ∙ out_top d hd in
    let rest : c / 2 ≡ d / 2 = xor_same (c / 2) (d / 2) (divisor * (d % 2)) (rw low at e) in
    omega arith

outs_same : (n c d : ℕ) → c < 2 ^ 32 → d < 2 ^ 32 → shiftsOut n c ≡ shiftsOut n d → c ≡ d
unfolding shiftsOut
outs_same zero c d hc hd e = e
outs_same (suc n) c d hc hd e = out_same c d hc hd (outs_same n (shiftOut c) (shiftOut d) (out_lt c hc) (out_lt d hd) e)

byte_same :
    (c d a b : ℕ) → c < 2 ^ 32 → d < 2 ^ 32 → register_after c (a ∷ []) ≡ register_after d (b ∷ []) → bit_xor c (a % 256) ≡ bit_xor d (b % 256)
byte_same c d a b hc hd e =
    outs_same 8 (bit_xor c (a % 256)) (bit_xor d (b % 256)) (xor_lt 32 c (a % 256) hc (omega arith)) (xor_lt 32 d (b % 256) hd (omega arith))
    (sym (register_byte c a hc) ∙ e ∙ register_byte d b hd)

register_same : (bytes : List ℕ) (c d : ℕ) → c < 2 ^ 32 → d < 2 ^ 32 → register_after c bytes ≡ register_after d bytes → c ≡ d
register_same [] c d hc hd e = sym (register_none c hc) ∙ e ∙ register_none d hd
register_same (b ∷ bytes) c d hc hd e =
    let split = sym (register_append c (b ∷ []) bytes) ∙ e ∙ register_append d (b ∷ []) bytes in
    let one = register_same bytes (register_after c (b ∷ [])) (register_after d (b ∷ [])) (register_lt c (b ∷ [])) (register_lt d (b ∷ [])) split in
    xor_same c d (b % 256) (byte_same c d b b hc hd one)

first_same :
    (c : ℕ) (rest : List ℕ) (a b : ℕ) → c < 2 ^ 32 → a < 256 → b < 256 → register_after c (a ∷ rest) ≡ register_after c (b ∷ rest) → a ≡ b
first_same c rest a b hc ha hb e =
    let split = sym (register_append c (a ∷ []) rest) ∙ e ∙ register_append c (b ∷ []) rest in
    let one = register_same rest (register_after c (a ∷ [])) (register_after c (b ∷ [])) (register_lt c (a ∷ [])) (register_lt c (b ∷ [])) split in
    let added = xor_comm (a % 256) c ∙ byte_same c c a b hc hc one ∙ xor_comm c (b % 256) in
    let low : a % 256 ≡ b % 256 = xor_same (a % 256) (b % 256) c added in
    omega arith

complement_same : (c d : ℕ) → c < 2 ^ 32 → d < 2 ^ 32 → all_ones - c ≡ all_ones - d → c ≡ d
complement_same c d hc hd e = omega arith

pub detects_one_byte : DetectsOneByte
detects_one_byte before after a b ha hb e =
    let xs = before ++ (a ∷ after) in
    let ys = before ++ (b ∷ after) in
    let whole = complement_same (register_after all_ones xs) (register_after all_ones ys) (register_lt all_ones xs) (register_lt all_ones ys) e in
    first_same (register_after all_ones before) after a b (register_lt all_ones before) ha hb
    (sym (register_append all_ones before (a ∷ after)) ∙ whole ∙ register_append all_ones before (b ∷ after))
