-- The CRC-32 of IEEE 802.3: the bytes are sent bit by bit, the low bit of each byte first, and divided by the generator.
-- Assumes nothing.
use Rattle.std.specs.Prelude.{ℕ, zero, suc, ◌+◌, ◌-◌, ◌*◌, ◌/◌, ◌%◌, ◌^◌, List, [], ◌∷◌, ◌++◌, bit_xor}

-- x^32 + x^26 + x^23 + x^22 + x^16 + x^12 + x^11 + x^10 + x^8 + x^7 + x^5 + x^4 + x^2 + x + 1: the bit of value 2^k stands for x^k,
-- and x^32 is left out
abbrev pub generator : ℕ
generator = 0x04C11DB7

abbrev pub all_ones : ℕ
all_ones = 0xFFFFFFFF

-- the low `width` bits of a number in the order they are sent, the lowest first
unfoldable pub bits : ℕ → ℕ → List ℕ
bits zero n = []
bits (suc width) n = n % 2 ∷ bits width (n / 2)

-- the bits of a row of bytes in the order they are sent
unfoldable pub sent : List ℕ → List ℕ
sent [] = []
sent (byte ∷ bytes) = bits 8 byte ++ sent bytes

-- one step of the division: the remainder moves up by one power of x, and where the bit that leaves it differs from the bit sent,
-- the generator is subtracted, which is exclusive or
unfoldable pub divided : ℕ → ℕ → ℕ
divided remainder bit = bit_xor (remainder * 2 % 2 ^ 32) (generator * bit_xor (remainder / 2 ^ 31) bit)

unfoldable pub remainder_after : ℕ → List ℕ → ℕ
remainder_after remainder [] = remainder
remainder_after remainder (bit ∷ rest) = remainder_after (divided remainder bit) rest

-- the low `width` bits in reverse order
unfoldable pub reflected : ℕ → ℕ → ℕ
reflected zero n = 0
reflected (suc width) n = n % 2 * 2 ^ width + reflected width (n / 2)

-- the register after `bytes`, from `register`: it holds the remainder reflected, x^31 in its lowest bit
unfoldable pub register_after : ℕ → List ℕ → ℕ
register_after register bytes = reflected 32 (remainder_after (reflected 32 register) (sent bytes))

-- the division starts from all ones, and the register is complemented at the end
abbrev pub crc : List ℕ → ℕ
crc bytes = all_ones - register_after all_ones bytes
