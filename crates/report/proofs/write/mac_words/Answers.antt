use Rattle.std.proofs.Common.{[], ◌∷◌, ap, ◌∙◌}
use Rattle.std.proofs.lemmas.Nat.{and_mask}
use Rattle.report.specs.Layout.{word}
use Rattle.report.proofs.write.mac_words.Goals as goal

pub returns : goal.returns
returns c =
    let high = c.word.ensures in
    let low = c.word-2.ensures ∙ ap (word 2) (and_mask c.args.mac.0 24) in
    (λ i. high i ∷ low i ∷ [])
