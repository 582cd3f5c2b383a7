use Rattle.std.proofs.Common.{◌≡◌, ◌+◌, false, Some, sym, ap, ◌∙◌, arith}
use Rattle.report.specs.declared.fault.WordFault.TheVariants.{Extra}
use Rattle.report.specs.Reading.{asked}
use Rattle.report.proofs.Steps.{right_at, wrong_at, missing_at, extra_at, done_at}
use Rattle.report.proofs.Lossless.{lossless}
use Rattle.report.proofs.Table.{length_asked}
use Rattle.report.proofs.read.first_wrong.Goals as goal

pub loop-place-preserved : goal.loop-place-preserved
loop-place-preserved c =
    let ws = c.args.words.now in
    let n = length_asked ws in
    c.loop-place.invariant
    ∙ right_at (asked ws) ws c.loop-place.place (λ _. false) (omega arith) (omega arith) (sym c.if-not-is_right.ensures)

pub returns-then-place-words : goal.returns-then-place-words
returns-then-place-words c =
    let ws = c.args.words.now in
    let n = length_asked ws in
    record { fault = sym (c.loop-place.invariant ∙ missing_at (asked ws) ws c.loop-place.place (λ _. false) (omega arith) (omega arith)); lossless = lossless }

pub returns-then-not-is_right : goal.returns-then-not-is_right
returns-then-not-is_right c =
    let ws = c.args.words.now in
    let n = length_asked ws in
    record { fault = sym (c.loop-place.invariant ∙ wrong_at (asked ws) ws c.loop-place.place (λ _. false) (omega arith) (omega arith) (sym c.if-not-is_right.ensures)); lossless = lossless }

pub returns-then-words-count : goal.returns-then-words-count
returns-then-words-count c =
    let ws = c.args.words.now in
    let n = length_asked ws in
    let last : c.loop-place.place ≡ 12 + c.from.result + 1 = omega arith in
    record { fault = sym (c.loop-place.invariant ∙ extra_at (asked ws) ws c.loop-place.place (λ _. false) (omega arith) (omega arith) ∙ ap (λ k. Some (Extra k)) last); lossless = lossless }

pub returns-else-words-count : goal.returns-else-words-count
returns-else-words-count c =
    let ws = c.args.words.now in
    let n = length_asked ws in
    record { fault = sym (c.loop-place.invariant ∙ done_at (asked ws) ws c.loop-place.place (λ _. false) (omega arith) (omega arith)); lossless = lossless }
