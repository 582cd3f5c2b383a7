use Rattle.std.proofs.Common.{◌≡◌, [], ◌∷◌, ◌++◌, map, length, get_or, take, ap, ◌∙◌, arith, rules}
use Rattle.report.specs.Reports.{whole, means}
use Rattle.report.specs.Layout.{mac_words, uuid_words, words}
use Rattle.report.proofs.Masks.{padded_four}
use Rattle.report.proofs.Written.{word_of_mask, words_so}
use Rattle.report.proofs.Report.words.Goals as goal

pub returns : goal.returns
returns c =
    let r = c.args.self.now in
    let four : length r.masks ≡ 4 = search rules in
    let own = c.mac_words.ensures in
    let side1 = c.mac_words-2.ensures in
    let side2 = c.mac_words-3.ensures in
    let uuid = c.uuid_words.ensures in
    let m1 = c.mask_word.ensures in
    let m2 = c.mask_word-2.ensures in
    let m3 = c.mask_word-3.ensures in
    let m4 = c.mask_word-4.ensures in
    let n = length (words (means r)) in
    (λ i. take n
    (c.word-head.result
    ∷ get_or (own i) 0 0 ∷ get_or (own i) 1 0 ∷ get_or (side1 i) 0 0 ∷ get_or (side1 i) 1 0 ∷ get_or (side2 i) 0 0 ∷ get_or (side2 i) 1 0
    ∷ get_or (uuid i) 0 0 ∷ get_or (uuid i) 1 0 ∷ get_or (uuid i) 2 0 ∷ get_or (uuid i) 3 0 ∷ get_or (uuid i) 4 0
    ∷ m1 i ∷ m2 i ∷ m3 i ∷ m4 i ∷ 0 ∷ []))
    ∙ ap (λ ms. take n
    (c.word-head.result
    ∷ (mac_words r.mac.0 ++ (mac_words r.side1.0 ++ (mac_words r.side2.0 ++ (uuid_words (whole r.uuid) ++ (map word_of_mask ms ++ 0 ∷ [])))))))
    (padded_four r.masks four)
    ∙ words_so r c.requires four c.word-head.result (omega arith)
