use Rattle.std.proofs.Common.{◌≡◌, ℕ, ◌+◌, ◌<◌, min, length, get_or, fold, arith, rules}
use lib.Count.{ones}
use Rattle.report.proofs.SetBits.{few_bits, top, bits_from}
use Rattle.report.proofs.mask.bit_count.Goals as goal

pub returns-clause-count : goal.returns-clause-count
returns-clause-count c =
    let ms = c.args.masks.now in
    let bytes : (k : ℕ) → k < length ms → get_or ms k 0 < 256 = λ k l. search rules in
    let folded : c.fold.result ≡ fold (λ bits m. min (bits + ones m) top) 0 ms = search rules in
    omega (arith, folded, bits_from 0 ms (omega arith) bytes)

pub returns-clause-few : goal.returns-clause-few
returns-clause-few c =
    let ms = c.args.masks.now in
    let bytes : (k : ℕ) → k < length ms → get_or ms k 0 < 256 = λ k l. search rules in
    let folded : c.fold.result ≡ fold (λ bits m. min (bits + ones m) top) 0 ms = search rules in
    omega (arith, folded, bits_from 0 ms (omega arith) bytes, few_bits ms bytes)
