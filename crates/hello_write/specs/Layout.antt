-- The bytes of the frame that is written. Assumes nothing.
use Rattle.std.specs.Prelude.{ℕ, ◌+◌, ◌-◌, ◌*◌, ◌/◌, ◌%◌, ◌^◌, List, [], ◌∷◌, ◌++◌, drop, slice_index}
use Rattle.hello_read.specs.Hellos.{Hello}
use Rattle.hello_read.specs.Layout.{organization, head, version_1}

-- the low bytes of a number of 64 bits, high byte first
abbrev pub big : ℕ → ℕ → List ℕ
big bytes v =
    drop (8 - bytes)
    (v / 2 ^ 56 % 256 ∷ v / 2 ^ 48 % 256 ∷ v / 2 ^ 40 % 256 ∷ v / 2 ^ 32 % 256 ∷ v / 2 ^ 24 % 256 ∷ v / 2 ^ 16 % 256 ∷ v / 2 ^ 8 % 256 ∷ v % 256 ∷ [])

-- four times two bits in one byte
abbrev pub packed : List ℕ → ℕ
packed s = slice_index s 0 * 64 + slice_index s 1 * 16 + slice_index s 2 * 4 + slice_index s 3

-- the 86 bytes, up to the vendor and behind it
abbrev pub contents_front : Hello → List ℕ
contents_front h = organization ++ big 2 h.checksum ++ big 4 version_1 ++ big 4 h.life_sign ++ big 4 h.counter

abbrev pub contents_back : Hello → List ℕ
contents_back h =
    big 1 (packed h.statuses) ++ big 1 h.timeout ++ big 6 h.source ++ big 1 h.port ++ big 1 h.line
    ++ big 1 h.direction ++ big 1 h.inhibition ++ big 6 h.remote ++ big 2 0 ++ h.uuid

abbrev pub contents : Hello → List ℕ
contents h = contents_front h ++ h.vendor ++ contents_back h

-- the TLVs: type and length, then the contents
abbrev pub chassis_tlv : ℕ → List ℕ
chassis_tlv source = 0x02 ∷ 0x07 ∷ 0x04 ∷ big 6 source

abbrev pub port_tlv : ℕ → List ℕ
port_tlv port = 0x04 ∷ 0x02 ∷ 0x06 ∷ big 1 port

abbrev pub time_tlv : ℕ → List ℕ
time_tlv seconds = 0x06 ∷ 0x02 ∷ big 2 seconds

abbrev pub hello_tlv : Hello → List ℕ
hello_tlv h = 0xFE ∷ 0x56 ∷ contents h

abbrev pub end_tlv : List ℕ
end_tlv = 0x00 ∷ 0x00 ∷ []

-- the frame of 125 bytes, with a time to live
abbrev pub frame : Hello → ℕ → List ℕ
frame h seconds = head (big 6 h.source) ++ chassis_tlv h.source ++ port_tlv h.port ++ time_tlv seconds ++ hello_tlv h ++ end_tlv
