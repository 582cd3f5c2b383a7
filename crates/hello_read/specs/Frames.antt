-- What a HELLO frame is: a head, TLVs and an end; types 1, 2 and 3 first, one HELLO behind them, its fields in range. Assumes nothing.
use Rattle.std.specs.Prelude.{◌≡◌, ℕ, ◌+◌, ◌≤◌, Bool, true, false, ◌&&◌, List, [], ◌∷◌, ◌++◌, length, Ok, ◌==◌}
use Rattle.std.specs.List.{AllByRecursion}
use Rattle.hello_read.specs.Hellos.{is_one_or_two, is_line, is_mac}
use Rattle.hello_read.specs.Layout.{organization, head, version_1, number_at, hello_in}
use Rattle.hello_read.specs.Refusals.{Answer}
use Rattle.hello_read.specs.Tlvs.{kind, size, starts}
use Rattle.hello_read.specs.Reading.{read}

-- A TLV: the two bytes of its head, and its contents.
pub record Tlv : Type 0 where
  pub high : ℕ
  pub low : ℕ
  pub contents : List ℕ

abbrev pub tlv_bytes : Tlv → List ℕ
tlv_bytes t = t.high ∷ t.low ∷ t.contents

abbrev pub tlvs_bytes : List Tlv → List ℕ
tlvs_bytes [] = []
tlvs_bytes (t ∷ ts) = tlv_bytes t ++ tlvs_bytes ts

-- the head says how long the contents are
abbrev pub Whole : Tlv → Type 0
Whole t = size t.high t.low ≡ length t.contents

abbrev pub is_hello : Tlv → Bool
is_hello t = kind t.high == 127 && starts organization t.contents

pub record Typed (n : ℕ) (t : Tlv) : Type 0 where
  pub whole : Whole t
  pub type : kind t.high ≡ n

pub record HelloTlv (t : Tlv) : Type 0 where
  pub whole : Whole t
  pub is : is_hello t ≡ true
  pub long : length t.contents ≡ 86

-- no end, and no HELLO
pub record Other (t : Tlv) : Type 0 where
  pub whole : Whole t
  pub no_end : kind t.high ≡ 0 → ⊥
  pub no_hello : is_hello t ≡ false

-- the contents of a HELLO TLV; six bytes are below 2 ^ 48, so the source is any MAC but 0
pub record InRange (c : List ℕ) : Type 0 where
  pub version : number_at 6 4 c ≡ version_1
  pub timeout : is_one_or_two (number_at 51 1 c) ≡ true
  pub source : is_mac (number_at 52 6 c) ≡ true
  pub line : is_line (number_at 59 1 c) ≡ true
  pub direction : is_one_or_two (number_at 60 1 c) ≡ true

-- the TLVs up to the HELLO
abbrev pub front : Tlv → Tlv → Tlv → List Tlv → List Tlv
front chassis port time before = chassis ∷ port ∷ time ∷ before

-- bs is a HELLO frame, and reading it answers a
pub record IsHelloFrame (bs : List ℕ) (a : Answer) : Type 0 where
  pub source : List ℕ
  pub chassis : Tlv
  pub port : Tlv
  pub time : Tlv
  pub before : List Tlv
  pub hello : Tlv
  pub after : List Tlv
  -- what stands behind the end
  pub ignored : List ℕ
  pub is : bs ≡ head source ++ (tlvs_bytes (front chassis port time before ++ hello ∷ after) ++ 0 ∷ 0 ∷ ignored)
  pub six : length source ≡ 6
  pub fits : length bs ≤ 1518
  pub first : Typed 1 chassis
  pub second : Typed 2 port
  pub third : Typed 3 time
  pub others_before : AllByRecursion Other before
  pub others_after : AllByRecursion Other after
  pub one : HelloTlv hello
  pub in_range : InRange hello.contents
  pub fields : a.hello ≡ hello_in hello.contents
  pub vendor_at : a.vendor_at ≡ 18 + length (tlvs_bytes (front chassis port time before)) + 20
  pub uuid_at : a.uuid_at ≡ 18 + length (tlvs_bytes (front chassis port time before)) + 72

-- A frame is read exactly where it is a HELLO frame.
pub record Exact : Type 0 where
  pub accepts : (bs : List ℕ) (a : Answer) → IsHelloFrame bs a → read bs ≡ Ok a
  pub accepts_only : (bs : List ℕ) (a : Answer) → read bs ≡ Ok a → IsHelloFrame bs a
