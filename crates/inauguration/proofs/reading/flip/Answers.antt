use Rattle.std.proofs.Common.{map, ap, ◌∙◌, arith}
use Rattle.train.specs.Line.{turn}
use Rattle.inauguration.specs.Consists.{line_of}
use Rattle.inauguration.proofs.Readings.{turned_all, flip_reverse}
use Rattle.inauguration.proofs.reading.flip.Goals as goal

pub returns : goal.returns
returns c =
    turned_all c.reverse.new.self c.loop-consist.consist-items (omega arith) (λ k d l. c.loop-consist.invariant.done k d (omega arith))
    ∙ ap (λ cs. map turn (line_of cs)) c.reverse.ensures.after ∙ flip_reverse c.args.consists.now
