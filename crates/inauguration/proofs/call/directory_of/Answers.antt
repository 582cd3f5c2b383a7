use Rattle.std.proofs.Common.{length, map, take, ap, ◌∙◌, arith}
use Rattle.train.specs.Rules.{node_count}
use Rattle.train.specs.Rows.{met, rows_met}
use Rattle.train.proofs.Totals.{total_reading}
use Rattle.directory.specs.Meaning.{met_means, serving}
use Rattle.inauguration.specs.Consists.{line_of}
use Rattle.inauguration.proofs.Answers.{in_order, rows_plain}
use Rattle.inauguration.proofs.call.directory_of.Goals as goal

pub nodes_of-requires : goal.nodes_of-requires
nodes_of-requires c =
    let line = in_order c.args.consists _ _ _ c.deref_mut.ensures.value (omega arith) c.read.ensures c.deref.ensures.0 in
    omega (arith, ap node_count line, total_reading (λ d. length d.nodes) (line_of c.args.consists.items))

pub returns : goal.returns
returns c =
    let line = in_order c.args.consists _ _ _ c.deref_mut.ensures.value (omega arith) c.read.ensures c.deref.ensures.0 in
    c.of.ensures.rows ∙ rows_plain _ _ (ap (map met_means) c.deref-2.ensures.0 ∙ c.nodes_of.ensures) ∙ ap (λ l. take 128 (rows_met (serving (met l)))) line
