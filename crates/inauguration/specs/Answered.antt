-- What the call answers, in plain numbers. Assumes nothing.
use Rattle.std.specs.Prelude.{ℕ, List, [], ◌∷◌, take, Ok, Err, Result}
use Rattle.report.specs.declared.Report as code
use Rattle.report.specs.Reports.{Report}
use Rattle.report.specs.Refusals.{Refusal}
use Rattle.train.specs.Rows.{Row}
use Rattle.directory.specs.declared.directory.Directory.{Directory}
use Rattle.directory.specs.Meaning.{rows_of}
use Rattle.fitting.specs.Neighbours.{IsLoose}
use Rattle.fitting.specs.Answer.{mute, loosely, split, mixed, long}
use Rattle.inauguration.specs.declared.refused.Refused.{Refused}
use Rattle.inauguration.specs.declared.refused.Refused.TheVariants.{Mute, Loose, Split, Mixed, Long}
use Rattle.inauguration.specs.Meaning.{all_mean}

-- the number of a refusal, and the values that it names
abbrev pub refusal : Refused → Refusal
refusal Mute = (mute, [])
refusal (Loose m) = (loosely, m.0 ∷ [])
refusal Split = (split, [])
refusal Mixed = (mixed, [])
refusal Long = (long, [])

-- the rows, or the number of the refusal
abbrev pub answered : Result Directory Refused → Result (List Row) ℕ
answered (Ok d) = Ok (rows_of d)
answered (Err f) = Err (refusal f).0

-- the reports held, of which there are at most 63
abbrev pub held_reports : List code.Report → List Report
held_reports held = all_mean (take 63 held)

-- a MAC that is named is that of a loose report
abbrev pub NamesLoose : List Report → Result Directory Refused → Type 0
NamesLoose held (Ok d) = Unit {0}
NamesLoose held (Err Mute) = Unit {0}
NamesLoose held (Err (Loose m)) = IsLoose held m.0
NamesLoose held (Err Split) = Unit {0}
NamesLoose held (Err Mixed) = Unit {0}
NamesLoose held (Err Long) = Unit {0}
