-- An inauguration is a step. Assumes nothing.
use Rattle.std.proofs.Common.{◌≡◌, ℕ, Bool, true, false, cond, List, [], Ok, Err, Result, sym, refl, ap, ◌∙◌, arith}
use Rattle.std.proofs.lemmas.List.{take-map}
use Rattle.keyed.specs.Table.{live}
use Rattle.counter.specs.Crc.{crc}
use Rattle.report.specs.declared.Report as code
use Rattle.report.specs.Reports.{means}
use Rattle.report.specs.Refusals.{Refusal}
use Rattle.train.specs.Bytes.{rows_bytes}
use Rattle.train.specs.Rows.{Row}
use Rattle.fitting.specs.Neighbours.{IsLoose}
use Rattle.fitting.specs.Answer.{loosely, answer}
use Rattle.inauguration.specs.declared.refused.Refused.{Refused}
use Rattle.inauguration.specs.declared.refused.Refused.TheVariants.{Mute, Loose, Split, Mixed, Long}
use Rattle.inauguration.specs.Answered.{refusal, held_reports, NamesLoose}
use Rattle.plan.specs.Meaning.{Meaning}
use Rattle.runs.specs.Calls.{State, Answer, inaugurate, told, counter, refused, barred, looked_at, named, bars, decided, rows_after, with_rows, event, Step}
use Rattle.node.specs.declared.node.Node.{Node}
use Rattle.node.specs.Seen.{seen}

-- the reports that inauguration looks at
pub looked : (n : Node) (rs : List code.Report) → rs ≡ live n.reports → held_reports rs ≡ looked_at (seen n)
looked n rs e = ap held_reports e ∙ sym (take-map means 63 (live n.reports))

module _ (n : Node) where
  abbrev found : Result (List Row) ℕ
  found = answer (seen n).mac (looked_at (seen n))

  abbrev said : Result (List Row) Refusal → Answer
  said r = told (λ rs. counter (crc (rows_bytes rs))) r

  fails : {plan : Meaning} (k loose : ℕ) → found ≡ Err k → (k ≡ loosely → IsLoose (looked_at (seen n)) loose) → Step plan (seen n) (event inaugurate (refused (named loose k)) [] []) (seen n)
  fails k loose e l =
      record {
        loose = loose;
        is_loose = λ f. l (let z : k ≡ loosely = cc in z);
        answered = ap (λ a. said (decided (seen n) loose a)) (sym e);
        wrote = refl;
        left = ap (λ a. with_rows (seen n) (rows_after (seen n).rows (decided (seen n) 0 a))) (sym e);
      }

  pub by_fault : {plan : Meaning} (f : Refused) → found ≡ Err (refusal f).0 → NamesLoose (looked_at (seen n)) (Err f) → Step plan (seen n) (event inaugurate (refused (refusal f)) [] []) (seen n)
  by_fault Mute e l = fails 6 0 e (λ z. absurd (omega arith))
  by_fault (Loose m) e l = fails 7 m.0 e (λ _. l)
  by_fault Split e l = fails 8 0 e (λ z. absurd (omega arith))
  by_fault Mixed e l = fails 9 0 e (λ z. absurd (omega arith))
  by_fault Long e l = fails 10 0 e (λ z. absurd (omega arith))

  module _ (rs : List Row) (e : found ≡ Ok rs) where
    firm : found ≡ Err loosely → ⊥
    firm f = cc

    decides : (b : Bool) (loose : ℕ) → b ≡ bars (seen n) rs → cond b (Err barred) (Ok rs) ≡ decided (seen n) loose found
    decides b loose d = ap (λ v. cond v (Err barred) (Ok rs)) d ∙ ap (decided (seen n) loose) (sym e)

    pub by_hold : {plan : Meaning} → true ≡ bars (seen n) rs → Step plan (seen n) (event inaugurate (refused barred) [] []) (seen n)
    by_hold d =
        record {
          loose = 0;
          is_loose = λ f. absurd (firm f);
          answered = ap said (decides true 0 d);
          wrote = refl;
          left = ap (λ r. with_rows (seen n) (rows_after (seen n).rows r)) (decides true 0 d);
        }

    pub accepted : {plan : Meaning} (t : State) → false ≡ bars (seen n) rs → t ≡ with_rows (seen n) rs → Step plan (seen n) (event inaugurate (counter (crc (rows_bytes rs))) [] []) t
    accepted t d l =
        record {
          loose = 0;
          is_loose = λ f. absurd (firm f);
          answered = ap said (decides false 0 d);
          wrote = refl;
          left = l ∙ ap (λ r. with_rows (seen n) (rows_after (seen n).rows r)) (decides false 0 d);
        }
