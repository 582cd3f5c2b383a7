use Rattle.std.proofs.Common.{◌&&◌, sym, ap, ◌∙◌}
use Rattle.std.proofs.lemmas.Bool.{eq-eqb}
use Rattle.report.specs.Masks.{gapless, unbroken, together}
use Rattle.report.specs.Reading.{masks_in}
use Rattle.report.proofs.Masks.{together_padded, few_masks}
use Rattle.report.proofs.read.is_end_word.Goals as goal

pub returns-then-word-eq0 : goal.returns-then-word-eq0
returns-then-word-eq0 c =
    let ws = c.args.words.now in
    c.is_gapless.ensures ∙ ap unbroken (c.together.ensures ∙ ap together c.masks_in.ensures ∙ together_padded (masks_in ws) (few_masks ws))
    ∙ sym (ap (λ b. b && gapless (masks_in ws)) (eq-eqb c.args.word 0 c.if-word-eq0.true))
