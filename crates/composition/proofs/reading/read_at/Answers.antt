use Rattle.std.proofs.Common.{◌-◌, cond, length, get_or, sym, ap, ◌∙◌, arith}
use Rattle.train.specs.Line.{flip}
use Rattle.composition.specs.Meaning.{consist_means, described}
use Rattle.composition.specs.Gathering.{nowhere}
use Rattle.composition.proofs.Gathering.{place_at, flip_at, read_one, read_more}
use Rattle.composition.proofs.Steps.{no_consist}
use Rattle.composition.proofs.reading.read_at.Goals as goal

pub returns-then-last-eq0 : goal.returns-then-last-eq0
returns-then-last-eq0 c = read_one c.args.consists.now c.args.place (omega arith) c.requires

pub returns-then-is_left_first : goal.returns-then-is_left_first
returns-then-is_left_first c =
    let cs = c.args.consists.now in
    let k = c.args.place in
    sym (ap (λ l. get_or l k nowhere) (read_more cs (omega arith) ∙ ap (λ b. cond b (described cs) (flip (described cs))) (sym c.if-is_left_first.ensures)) ∙ place_at cs k c.requires)

pub returns : goal.returns
returns c =
    let cs = c.args.consists.now in
    let k = c.args.place in
    let d = get_or cs (length cs - 1 - k) no_consist in
    let turned = c.other.ensures in
    (λ i. record { consist = (consist_means d).consist; way = turned i })
    ∙ sym (ap (λ l. get_or l k nowhere) (read_more cs (omega arith) ∙ ap (λ b. cond b (described cs) (flip (described cs))) (sym c.if-is_left_first.ensures)) ∙ flip_at cs k c.requires)
