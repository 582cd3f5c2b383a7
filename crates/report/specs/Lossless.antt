-- Words and reports say the same. Assumes nothing.
use Rattle.std.specs.Prelude.{◌≡◌, ℕ, ◌<◌, true, false, List, Ok, Err, ◌≢◌}
use Rattle.report.specs.Reports.{Report, is_report}
use Rattle.report.specs.Refusals.{Refusal, garbled}
use Rattle.report.specs.Layout.{words}
use Rattle.report.specs.Reading.{right, read}

pub record Lossless : Type 0 where
  -- what is written reads back as it was
  pub reads_back : (r : Report) → is_report r ≡ true → read (words r) ≡ Ok r
  -- a row that is read is what writing gives again
  pub writes_again : (ws : List ℕ) (r : Report) → read ws ≡ Ok r → (is_report r ≡ true) × (words r ≡ ws)
  -- the place that a refusal names is that of the first wrong word
  pub first : (ws : List ℕ) (k : ℕ) → read ws ≡ Err (garbled k) → ((j : ℕ) → j < k → right ws j ≡ true) × (right ws k ≡ false)
  -- a row is refused only where no report has these words
  pub refuses : (ws : List ℕ) (f : Refusal) → read ws ≡ Err f → (r : Report) → is_report r ≡ true → words r ≢ ws
  -- two reports are the same where their words are
  pub same : (r s : Report) → is_report r ≡ true → is_report s ≡ true → words r ≡ words s → r ≡ s
