-- TLVs from the left: what each is, and where the one HELLO stands. Assumes nothing.
use Rattle.std.specs.Prelude.{ℕ, zero, suc, ◌+◌, ◌*◌, ◌/◌, ◌%◌, ◌≤◌, Bool, true, false, cond, not, ◌&&◌, List, [], ◌∷◌, length, take, Some, None, Ok, Err, Option, Result, ◌==◌, nat_lt}
use Rattle.std.specs.Str.{bytes_eq}
use Rattle.hello_read.specs.declared.fault.TlvFault.{TlvFault}
use Rattle.hello_read.specs.declared.fault.TlvFault.TheVariants.{Order, Past, FilledEnd, Length, Second, NoEnd}
use Rattle.hello_read.specs.Layout.{organization}

-- The head: the type in the high 7 bits, the length of the contents in the low 9.
abbrev pub kind : ℕ → ℕ
kind high = high / 2

abbrev pub size : ℕ → ℕ → ℕ
size high low = high % 2 * 256 + low

abbrev pub starts : List ℕ → List ℕ → Bool
starts front bs = bytes_eq front (take (length front) bs)

-- What stands next in a frame: the end, or a TLV with so many bytes of contents, a HELLO or none.
pub data Next : Type 0 where
  End : Next
  Filled : ℕ → Bool → Next

-- One TLV, whose head stands at place p.
-- the type and the contents of the one at the front of the rest of the frame
abbrev pub cut : ℕ → List ℕ → Result (ℕ × List ℕ) TlvFault
cut p [] = Err (NoEnd p)
cut p (high ∷ []) = Err (NoEnd (p + 1))
cut p (high ∷ low ∷ rest) =
    cond (nat_lt (length rest) (size high low)) (Err (Past p)) (Ok (kind high, take (size high low) rest))

-- of type 0
abbrev pub end : ℕ → ℕ → Result Next TlvFault
end n p = cond (n == 0) (Ok End) (Err (FilledEnd p))

-- of type 127, with these contents
abbrev pub specific : List ℕ → ℕ → Result Next TlvFault
specific contents p =
    let hello = starts organization contents in
    cond (hello && not (length contents == 86)) (Err (Length p)) (Ok (Filled (length contents) hello))

-- the n-th from 0, at the front of the rest of the frame
abbrev pub tlv_at : ℕ → ℕ → List ℕ → Result Next TlvFault
tlv_at p n [] = Err (NoEnd p)
tlv_at p n (high ∷ []) = Err (NoEnd (p + 1))
tlv_at p n (high ∷ low ∷ rest) =
    cond (nat_lt (length rest) (size high low)) (Err (Past p))
    (cond (nat_lt n 3 && not (kind high == n + 1)) (Err (Order p))
    (cond (kind high == 0) (end (size high low) p)
    (cond (kind high == 127) (specific (take (size high low) rest) p)
    (Ok (Filled (size high low) false)))))

-- The HELLO found so far, once the TLV at p is known to be one or not.
abbrev pub noted : Option ℕ → Bool → ℕ → Result (Option ℕ) TlvFault
noted found false p = Ok found
noted (Some q) true p = Err (Second p)
noted None true p = Ok (Some p)

-- the HELLO found lies within the first so many bytes
abbrev pub Within : ℕ → Option ℕ → Type 0
Within bytes None = Unit {0}
Within bytes (Some p) = p + 88 ≤ bytes

-- `walk skip p n found bs`: `skip` bytes at the front of bs end a TLV; the next one is the n-th, and its head stands at p.
abbrev pub walk : ℕ → ℕ → ℕ → Option ℕ → List ℕ → Result (Option ℕ) TlvFault
walk skip p n found [] = Err (NoEnd p)
walk (suc k) p n found (b ∷ bs) = walk k p n found bs
walk zero p n found (b ∷ bs) =
    elim (tlv_at p n (b ∷ bs)) [
      | Ok t ↦ elim t [ End ↦ Ok found | Filled size hello ↦ elim (noted found hello p) [ Ok f ↦ walk (size + 1) (p + (2 + size)) (n + 1) f bs | Err e ↦ Err e ] ]
      | Err e ↦ Err e
    ]
