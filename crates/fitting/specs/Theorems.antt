-- What the answer of an inauguration says of the lines that fit the reports held. Assumes nothing.
use Rattle.std.specs.Prelude.{◌≡◌, ℕ, true, ◌⊎◌, List, map, Ok, Err, ◌≢◌}
use Rattle.report.specs.Reports.{Report, is_report}
use Rattle.train.specs.Line.{Line}
use Rattle.train.specs.Truth.{Awake, awake, In, Fits}
use Rattle.train.specs.Rules.{Different, macs, IsLine, Within}
use Rattle.train.specs.Rows.{Row, rows}
use Rattle.train.specs.Agreement.{Agree}
use Rattle.fitting.specs.Neighbours.{Firm}
use Rattle.fitting.specs.Walk.{IsChain}
use Rattle.fitting.specs.LateNode.{LateNode, line_before, line_after}
use Rattle.fitting.specs.Answer.{mute, loosely, split, mixed, long, answer}

-- reports in their ranges, each with a MAC of its own
pub record AreReports (held : List Report) : Type 0 where
  pub ranges : (r : Report) → In r held → is_report r ≡ true
  pub differ : Different (map (λ r. r.mac) held)

-- a line of which the reports held are the true reports
abbrev pub Fitting : List Report → Line → Type 0
Fitting held l = IsLine l × Fits l held

-- with a node awake under the MAC own
abbrev pub AwakeIn : ℕ → Line → Type 0
AwakeIn own l = In own (macs (awake l))

-- what the answer to the node with the MAC own says
pub record Answers (own : ℕ) (held : List Report) : Type 0 where
  -- rows are answered only where a line within the limits fits, with this node awake, and they are its rows
  pub accepted : (rs : List Row) → answer own held ≡ Ok rs → (l : Line) × Fitting held l × Within l × AwakeIn own l × (rs ≡ rows l)
  -- where such a line fits, its rows are answered, whichever of the fitting lines it is
  pub accepts : (l : Line) → Fitting held l → Within l → AwakeIn own l → answer own held ≡ Ok (rows l)
  -- mute: no report is held under the own MAC
  pub is_mute : answer own held ≡ Err mute → (r : Report) → In r held → r.mac ≢ own
  -- loose: a report names a neighbour that is not held or does not name it back
  pub is_loose : answer own held ≡ Err loosely → (r : Report) × In r held × (Firm held r → ⊥)
  -- split: no chain goes through all the reports
  pub is_split : answer own held ≡ Err split → (xs : List Awake) → IsChain held xs → ⊥
  -- and so after any of these three no line with this node awake fits
  pub none_fits : (answer own held ≡ Err mute) ⊎ (answer own held ≡ Err loosely) ⊎ (answer own held ≡ Err split)
      → (l : Line) → Fitting held l → AwakeIn own l → ⊥
  -- mixed: there is a chain, but no line fits, limits aside
  pub is_mixed : answer own held ≡ Err mixed → ((xs : List Awake) × IsChain held xs) × ((l : Line) → Fitting held l → ⊥)
  -- long: a line fits, with this node awake, and none that fits is within the limits
  pub is_long : answer own held ≡ Err long → ((l : Line) × Fitting held l × AwakeIn own l) × ((l : Line) → Fitting held l → Within l → ⊥)
  -- one of these is answered
  pub one_of : ((rs : List Row) × (answer own held ≡ Ok rs)) ⊎ (answer own held ≡ Err mute) ⊎ (answer own held ≡ Err loosely)
      ⊎ (answer own held ≡ Err split) ⊎ (answer own held ≡ Err mixed) ⊎ (answer own held ≡ Err long)

abbrev pub Inaugurates : Type 0
Inaugurates = (own : ℕ) (held : List Report) → AreReports held → Answers own held

-- whoever sleeps: two nodes whose fitting lines agree answer the same rows
abbrev pub NodesAgree : Type 0
NodesAgree =
    (first second : ℕ) (held also : List Report) → AreReports held → AreReports also → (l k : Line) → Fitting held l → Fitting also k → Agree l k
    → Within l → AwakeIn first l → AwakeIn second k → answer second also ≡ answer first held

-- other nodes answer the same as this one, rows or refusal, and so does this one when another has woken up
pub record SameAnswers (own : ℕ) (held : List Report) : Type 0 where
  -- a node whose fitting line agrees with the one that fits here answers the same, whatever reports it holds and whoever sleeps
  pub others : (other : ℕ) (also : List Report) → AreReports also → (l k : Line) → Fitting held l → AwakeIn own l → Fitting also k → AwakeIn other k
      → Agree l k → answer other also ≡ answer own held
  -- a late node changes nothing: once it is awake, the answer here is the one from before
  pub late : (n : LateNode) (also : List Report) → AreReports also → Fitting held (line_before n) → AwakeIn own (line_before n) → Fitting also (line_after n)
      → answer own also ≡ answer own held
  -- the line with it agrees with the line before, so by `others` it and all others answer the same
  pub late_agrees : (n : LateNode) → Agree (line_before n) (line_after n)
