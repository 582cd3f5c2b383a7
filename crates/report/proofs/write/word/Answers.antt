use Rattle.std.proofs.Common.{◌≡◌, ◌*◌, ◌%◌, ◌^◌, ap, ◌∙◌, arith}
use lib.Bits.{bit_or}
use Rattle.std.proofs.lemmas.Nat.{or_shifted}
use Rattle.report.specs.Layout.{number}
use Rattle.report.proofs.write.word.Goals as goal

pub returns : goal.returns
returns c =
    let k = number c.args.kind in
    let load = c.args.load in
    let fits : c.number.result * 2 ^ 28 % 2 ^ 32 ≡ k * 2 ^ 28 = omega (arith, c.number.ensures.kind) in
    ap (λ n. bit_or n load) fits ∙ or_shifted k 28 load (omega arith)
