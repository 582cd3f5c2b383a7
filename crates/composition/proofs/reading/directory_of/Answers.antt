use Rattle.std.proofs.Common.{◌≡◌, List, take, Some, None, Ok, Err, Option, Result, sym, ap, ◌∙◌}
use Rattle.train.specs.Line.{Line}
use Rattle.train.specs.Rows.{Row, rows, rows_met}
use Rattle.train.proofs.Agreed.{one_directory}
use Rattle.train.proofs.Limits.{limits_suffice}
use Rattle.train.proofs.Numbered.{numbered}
use Rattle.directory.specs.Meaning.{serving, rows_from}
use Rattle.composition.specs.declared.fault.LineFault.{LineFault}
use Rattle.composition.specs.Meaning.{described}
use Rattle.composition.proofs.Exact.{no_fault}
use Rattle.composition.proofs.Gathering.{gathered}
use Rattle.composition.proofs.reading.directory_of.Goals as goal

abbrev answer : Line → Option LineFault → Result (List Row) LineFault
answer l o = elim o [ None ↦ Ok (rows l) | Some f ↦ Err f ]

pub returns : goal.returns
returns c =
    let l = described c.args.consists.now in
    let read : rows_from c.met_nodes.result.items ≡ rows l = ap (λ xs. take 128 (rows_met (serving xs))) c.met_nodes.ensures ∙ gathered l c.requires.0 c.requires.1 in
    record {
      rows = ap Ok (c.of.ensures.rows ∙ ap rows_from c.as_slice.ensures.value ∙ read) ∙ sym (ap (answer l) (no_fault l c.requires.0 c.requires.1));
      one = one_directory;
      numbered = numbered;
      limits = limits_suffice;
    }
