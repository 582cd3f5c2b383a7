use Rattle.std.proofs.Common.{◌≡◌, ◌+◌, ◌*◌, ◌/◌, ◌%◌, ◌^◌, [], ◌∷◌, ap, ◌∙◌, arith}
use lib.Bits.{bit_and}
use Rattle.std.proofs.lemmas.Nat.{and_mask}
use Rattle.report.specs.Reports.{whole}
use Rattle.report.specs.Layout.{word}
use Rattle.report.proofs.Bits.{two_parts}
use Rattle.report.proofs.write.uuid_words.Goals as goal

pub word-requires-3 : goal.word-requires-3
word-requires-3 c =
    let u = c.args.uuid in
    let m = and_mask u.high 20 in
    omega (arith, two_parts (bit_and u.high 1048575) (u.low / 72057594037927936) 8 (omega arith) (omega arith))

pub returns : goal.returns
returns c =
    let u = c.args.uuid in
    let n = whole u in
    let m = and_mask u.high 20 in
    let one = c.word.ensures ∙ ap (word 3) (let e : u.high / 2 ^ 48 ≡ n / 2 ^ 112 = omega arith in e) in
    let two = c.word-2.ensures ∙ ap (word 3) (and_mask (u.high / 2 ^ 20) 28 ∙ (let e : u.high / 2 ^ 20 % 2 ^ 28 ≡ n / 2 ^ 84 % 2 ^ 28 = omega arith in e)) in
    let three = c.word-3.ensures ∙ ap (word 3) (two_parts (bit_and u.high 1048575) (u.low / 2 ^ 56) 8 (omega arith) (omega arith)
    ∙ (let e : bit_and u.high 1048575 * 2 ^ 8 + u.low / 2 ^ 56 ≡ n / 2 ^ 56 % 2 ^ 28 = omega arith in e)) in
    let four = c.word-4.ensures ∙ ap (word 3) (and_mask (u.low / 2 ^ 28) 28 ∙ (let e : u.low / 2 ^ 28 % 2 ^ 28 ≡ n / 2 ^ 28 % 2 ^ 28 = omega arith in e)) in
    let five = c.word-5.ensures ∙ ap (word 3) (and_mask u.low 28 ∙ (let e : u.low % 2 ^ 28 ≡ n % 2 ^ 28 = omega arith in e)) in
    (λ i. one i ∷ two i ∷ three i ∷ four i ∷ five i ∷ [])
