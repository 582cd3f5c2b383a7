-- Where a HELLO frame holds its fields. Assumes nothing.
use Rattle.std.specs.Prelude.{ℕ, ◌/◌, ◌%◌, List, [], ◌∷◌, ◌++◌, take, drop}
use Rattle.std.specs.Int.Digits as digits
use Rattle.hello_read.specs.Hellos.{Hello}

-- The head of a frame: destination, source, VLAN tag and type.
abbrev pub destination : List ℕ
destination = 0x01 ∷ 0x80 ∷ 0xC2 ∷ 0x00 ∷ 0x00 ∷ 0x0E ∷ []

abbrev pub tag : List ℕ
tag = 0x81 ∷ 0x00 ∷ 0xE1 ∷ 0xEC ∷ 0x88 ∷ 0xCC ∷ []

abbrev pub head : List ℕ → List ℕ
head source = destination ++ source ++ tag

-- the first bytes of a HELLO TLV's contents: organization and subtype
abbrev pub organization : List ℕ
organization = 0x20 ∷ 0x0E ∷ 0x95 ∷ 0x01 ∷ []

-- the version 1.0.0.0, the only one
abbrev pub version_1 : ℕ
version_1 = 0x0100_0000

abbrev pub bytes_at : ℕ → ℕ → List ℕ → List ℕ
bytes_at at bytes c = take bytes (drop at c)

-- a number, high byte first
abbrev pub number : List ℕ → ℕ
number bs = digits.number_from_digits 256 bs

abbrev pub number_at : ℕ → ℕ → List ℕ → ℕ
number_at at bytes c = number (bytes_at at bytes c)

-- four times two bits
abbrev pub pairs : ℕ → List ℕ
pairs b = b / 64 % 4 ∷ b / 16 % 4 ∷ b / 4 % 4 ∷ b % 4 ∷ []

-- the fields in the 86 bytes of a HELLO TLV's contents
abbrev pub hello_in : List ℕ → Hello
hello_in c = record {
  checksum = number_at 4 2 c;
  life_sign = number_at 10 4 c;
  counter = number_at 14 4 c;
  vendor = bytes_at 18 32 c;
  statuses = pairs (number_at 50 1 c);
  timeout = number_at 51 1 c;
  source = number_at 52 6 c;
  port = number_at 58 1 c;
  line = number_at 59 1 c;
  direction = number_at 60 1 c;
  inhibition = number_at 61 1 c % 4;
  remote = number_at 62 6 c;
  uuid = bytes_at 70 16 c;
}
