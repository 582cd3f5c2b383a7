-- What the writer answers, what it leaves in the buffer, and what is read back. Assumes nothing.
use Rattle.std.specs.Prelude.{ℕ, ◌+◌, Bool, true, false, List, ◌++◌, length, take, drop, Some, None, Ok, Err, Option, Result, nat_le}
use Rattle.hello_read.specs.declared.fault.FieldFault.{FieldFault}
use Rattle.hello_read.specs.Hellos.{Hello, hello_of, first_wrong}
use Rattle.hello_read.specs.Refusals.{Refusal, Answer, short, field, offset}
use Rattle.hello_write.specs.declared.Writable.{Writable}
use Rattle.hello_write.specs.declared.fault.WriteFault.{WriteFault}
use Rattle.hello_write.specs.declared.fault.WriteFault.TheVariants.{Field, Short}
use Rattle.hello_write.specs.Widths.{writable}
use Rattle.hello_write.specs.Layout.{frame}

-- what a checked HELLO means
abbrev pub meant : Writable → Hello
meant w = hello_of w.fields w.vendor.now w.uuid.now

abbrev pub write_refusal : WriteFault → Refusal
write_refusal (Field fault) = field (offset fault)
write_refusal Short = short

abbrev pub write_told : Result ℕ WriteFault → Result ℕ Refusal
write_told (Ok bytes) = Ok bytes
write_told (Err fault) = Err (write_refusal fault)

-- a buffer once xs is written at a place: every other byte stays
abbrev pub laid : ℕ → List ℕ → List ℕ → List ℕ
laid at xs buffer = take at buffer ++ (xs ++ drop (at + length xs) buffer)

-- by the first wrong field, and whether there is room
abbrev pub decided : Option FieldFault → Bool → Result ℕ Refusal
decided (Some fault) room = Err (field (offset fault))
decided None true = Ok 125
decided None false = Err short

-- from a place of a buffer of so many bytes
abbrev pub write_answer : Hello → ℕ → ℕ → Result ℕ Refusal
write_answer h at bytes = decided (first_wrong (writable h)) (nat_le (at + 125) bytes)

abbrev pub left : Result ℕ Refusal → ℕ → List ℕ → List ℕ → List ℕ
left (Ok n) at xs buffer = laid at xs buffer
left (Err e) at xs buffer = buffer

abbrev pub write_leaves : Hello → ℕ → ℕ → List ℕ → List ℕ
write_leaves h seconds at buffer = left (write_answer h at (length buffer)) at (frame h seconds) buffer

-- what reading the frame answers: the HELLO TLV's head stands at 35
abbrev pub written_answer : Hello → Answer
written_answer h = record { hello = h; vendor_at = 55; uuid_at = 107 }
