use Rattle.std.proofs.Common.{◌≡◌, fold, bit_or, ◌∙◌, rules}
use Rattle.report.proofs.Masks.{together_fold}
use Rattle.report.proofs.mask.together.Goals as goal

pub returns : goal.returns
returns c =
    let folded : c.fold.result ≡ fold (λ all m. bit_or all m) 0 c.args.masks.now = search rules in
    folded ∙ together_fold c.args.masks.now
