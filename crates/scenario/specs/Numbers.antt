-- Numbers as a scenario writes them. Assumes nothing.
use Rattle.std.specs.Prelude.{◌≡◌, ℕ, ◌+◌, ◌-◌, ◌*◌, ◌/◌, ◌^◌, ◌<◌, ◌≤◌, ◌==◌, List, [], length, map, slice_index, slice_index_or, All}
use Rattle.std.specs.List.{slice_split}
use Rattle.std.specs.Str.Parse.{IsNumeral, digits_value}
use Rattle.std.specs.Char.{digit_value}
use Rattle.std.specs.Simd.{first_chunks}
use Rattle.scenario.specs.declared.number.Base.{Base}
use Rattle.scenario.specs.declared.number.Base.TheVariants.{Decimal, Hex}

abbrev pub radix : Base → ℕ
radix Decimal = 10
radix Hex = 16

-- the largest number that is read in a base: one of 64 bits, or of 128
abbrev pub top : Base → ℕ
top Decimal = 2 ^ 64 - 1
top Hex = 2 ^ 128 - 1

-- the digits, two by two
abbrev pub pairs : List ℕ → List (List ℕ)
pairs digits = first_chunks 2 (length digits / 2) digits

abbrev pub AreHexDigits : List ℕ → Type 0
AreHexDigits pair = (digit_value (slice_index pair 0) < 16) × (digit_value (slice_index pair 1) < 16)

-- the byte that two hex digits write
abbrev pub byte_of : List ℕ → ℕ
byte_of pair = digit_value (slice_index pair 0) * 16 + digit_value (slice_index pair 1)

-- the bytes that a token writes, two hex digits each
abbrev pub bytes_of : List ℕ → List ℕ
bytes_of token = map byte_of (pairs token)

-- what stands between the dots
abbrev pub parts_of : List ℕ → List (List ℕ)
parts_of token = slice_split (λ b. b == 46) token

-- a decimal number of 8 bits
abbrev pub IsPart : List ℕ → Type 0
IsPart part = IsNumeral 10 part × (digits_value 10 part ≤ 255)

abbrev pub AreFour : List (List ℕ) → Type 0
AreFour parts = (length parts ≡ 4) × All IsPart parts

-- the number that four parts write, the first the highest byte
abbrev pub address_of : List (List ℕ) → ℕ
address_of parts =
    digits_value 10 (slice_index_or parts 0 []) * 2 ^ 24 + digits_value 10 (slice_index_or parts 1 []) * 2 ^ 16 + digits_value 10 (slice_index_or parts 2 []) * 2 ^ 8
    + digits_value 10 (slice_index_or parts 3 [])
