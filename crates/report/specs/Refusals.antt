-- What is answered: the number of each refusal and what it names. Assumes nothing.
use Rattle.std.specs.Prelude.{ℕ, List, [], ◌∷◌, Ok, Err, Result}
use Rattle.report.specs.declared.fault.WordFault.{WordFault}
use Rattle.report.specs.declared.fault.WordFault.TheVariants.{Missing, Wrong, Extra}
use Rattle.report.specs.declared.fault.WriteFault.{WriteFault}
use Rattle.report.specs.declared.fault.WriteFault.TheVariants.{Field, Short}
use Rattle.report.specs.declared.Report as code
use Rattle.report.specs.Reports.{Report, means}

-- the number, and the values that it names
abbrev pub Refusal : Type 0
Refusal = ℕ × List ℕ

abbrev pub short : Refusal
short = (1, [])

abbrev pub garbled : ℕ → Refusal
garbled place = (2, place ∷ [])

abbrev pub field : Refusal
field = (17, [])

abbrev pub word_refusal : WordFault → Refusal
word_refusal (Missing place) = garbled place
word_refusal (Wrong place) = garbled place
word_refusal (Extra place) = garbled place

abbrev pub write_refusal : WriteFault → Refusal
write_refusal Field = field
write_refusal Short = short

-- the answers of the reader and of the writer
abbrev pub read_told : Result code.Report WordFault → Result Report Refusal
read_told (Ok r) = Ok (means r)
read_told (Err f) = Err (word_refusal f)

abbrev pub write_told : Result ℕ WriteFault → Result ℕ Refusal
write_told (Ok n) = Ok n
write_told (Err f) = Err (write_refusal f)
