use Rattle.std.proofs.Common.{◌≡◌, ◌-◌, ◌%◌, ◌^◌, get_or, ap, ◌∙◌, arith, rules}
use lib.Bits.{bit_and}
use Rattle.std.proofs.lemmas.Nat.{one_shl, and_mask}
use Rattle.report.proofs.read.low_bits.Goals as goal

pub returns : goal.returns
returns c =
    let k = c.args.bits in
    let n = c.from.result in
    let is : c.unwrap_or-word.result ≡ get_or c.args.words.now c.args.place 0 = search rules in
    ap (λ m. bit_and n (m - 1)) (one_shl k 64 (omega arith)) ∙ and_mask n k ∙ ap (λ m. m % 2 ^ k) (c.from.ensures ∙ is)
