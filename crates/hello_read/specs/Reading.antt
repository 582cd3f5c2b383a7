-- How a frame is read: the checks in their order, and the answer. Assumes nothing.
use Rattle.std.specs.Prelude.{◌≡◌, ℕ, ◌+◌, Bool, cond, ◌&&◌, List, ◌∷◌, length, drop, Some, None, Ok, Err, Option, Result, ◌==◌, nat_le}
use Rattle.hello_read.specs.declared.fault.FieldFault.{FieldFault}
use Rattle.hello_read.specs.declared.fault.FieldFault.TheVariants.{Version}
use Rattle.hello_read.specs.declared.fault.TlvFault.{TlvFault}
use Rattle.hello_read.specs.declared.fault.TlvFault.TheVariants.{Field}
use Rattle.hello_read.specs.Hellos.{ranges, first_wrong}
use Rattle.hello_read.specs.Layout.{destination, tag, version_1, bytes_at, number_at, hello_in}
use Rattle.hello_read.specs.Refusals.{Refusal, Answer, broken, foreign, field, offset, tlv_refusal}
use Rattle.hello_read.specs.Tlvs.{starts, walk}

-- destination, tag and type; the source may be any
abbrev pub headed : List ℕ → Bool
headed bs = starts destination bs && starts tag (drop 12 bs)

-- the contents of the HELLO TLV whose head stands at p
abbrev pub contents_at : ℕ → List ℕ → List ℕ
contents_at p bs = bytes_at (p + 2) 86 bs

-- what is asked of them, from the left
abbrev pub asked : List ℕ → List (FieldFault × Bool)
asked c = (Version, (number_at 6 4 c == version_1)) ∷ ranges (hello_in c)

abbrev pub answer_at : ℕ → List ℕ → Answer
answer_at p bs = record { hello = hello_in (contents_at p bs); vendor_at = p + 20; uuid_at = p + 72 }

-- the TLV is refused for a field
abbrev pub Refuses : Option FieldFault → TlvFault → Type 0
Refuses None e = ⊥
Refuses (Some fault) e = e ≡ Field fault

abbrev pub judged : Option FieldFault → Answer → Result Answer Refusal
judged None answer = Ok answer
judged (Some fault) answer = Err (field (offset fault))

abbrev pub found : List ℕ → Result (Option ℕ) TlvFault → Result Answer Refusal
found bs (Err fault) = Err (tlv_refusal fault)
found bs (Ok None) = Err foreign
found bs (Ok (Some p)) = judged (first_wrong (asked (contents_at p bs))) (answer_at p bs)

abbrev pub read : List ℕ → Result Answer Refusal
read bs =
    cond (nat_le 18 (length bs) && nat_le (length bs) 1518)
    (cond (headed bs) (found bs (walk 0 18 0 None (drop 18 bs))) (Err foreign))
    (Err (broken (length bs)))
