use Rattle.std.proofs.Common.{◌≡◌, ◌/◌, ◌∙◌, arith}
use Rattle.std.proofs.lemmas.Nat.{one_shl, and_mask}
use Rattle.std.proofs.lemmas.Bool.{eq-eqb}
use Rattle.report.specs.Layout.{number}
use Rattle.report.proofs.read.is_of.Goals as goal

pub returns-then-word-number : goal.returns-then-word-number
returns-then-word-number c =
    let w = c.args.word in
    let same : w / 268435456 ≡ number c.args.kind = c.if-word-number.true ∙ c.number.ensures.kind in
    rw (and_mask w 28, one_shl c.args.bits 32 (omega arith), eq-eqb (w / 268435456) (number c.args.kind) same)
