use Rattle.std.proofs.Common.{◌≡◌, ◌+◌, ◌-◌, ◌<◌, ◌≤◌, cond, map, length, get_or, drop, Ok, Err, sym, ap, ◌∙◌, arith}
use Rattle.std.proofs.lemmas.List.{at_drop_more, at_drop_all, length-append}
use Rattle.std.proofs.lemmas.Bool.{le-leb, lt-leb}
use Rattle.train.specs.Truth.{awake_of, awake, true_reports}
use Rattle.train.proofs.Fit.{fits_one_line}
use Rattle.composition.specs.Meaning.{node_means, consist_means, described}
use Rattle.composition.specs.Faults.{macs_in}
use Rattle.composition.proofs.Exact.{as_many}
use Rattle.composition.proofs.Sending.{length_reports, sent_means}
use Rattle.composition.proofs.Steps.{no_consist, count_awake}
use Rattle.composition.proofs.reports.awake_within.Goals as goal

pub returns-then-awake-free : goal.returns-then-awake-free
returns-then-awake-free c =
    let k = c.loop-consist.consist-index in
    let cs = c.args.consists.now in
    let s = consist_means (get_or cs k no_consist) in
    let n = c.count_awake-awake.ensures ∙ count_awake c.nodes.result.now ∙ ap (λ ns. length (macs_in (map node_means ns))) c.nodes.ensures ∙ as_many s in
    let rest = at_drop_more (λ xs. length (awake (described xs))) cs k no_consist c.loop-consist-test.true ∙ length-append (awake_of s) (awake (described (drop (k + 1) cs))) in
    let total = length_reports 0 (awake (described cs)) in
    let over : c.args.room < length (true_reports (described cs)) = omega (arith, c.loop-consist.invariant.0) in
    record {
      answer = sym (ap (λ b. cond b (Ok (length (true_reports (described cs)))) (Err (record {}))) (lt-leb (length (true_reports (described cs))) c.args.room over));
      meaning = sent_means cs;
      one_line = fits_one_line;
    }

pub loop-consist-preserved : goal.loop-consist-preserved
loop-consist-preserved c =
    let k = c.loop-consist.consist-index in
    let cs = c.args.consists.now in
    let s = consist_means (get_or cs k no_consist) in
    let n = c.count_awake-awake.ensures ∙ count_awake c.nodes.result.now ∙ ap (λ ns. length (macs_in (map node_means ns))) c.nodes.ensures ∙ as_many s in
    let rest = at_drop_more (λ xs. length (awake (described xs))) cs k no_consist c.loop-consist-test.true ∙ length-append (awake_of s) (awake (described (drop (k + 1) cs))) in
    (omega (arith, c.loop-consist.invariant.0), omega (arith, c.loop-consist.invariant.1))

pub returns : goal.returns
returns c =
    let k = c.loop-consist.consist-index in
    let cs = c.args.consists.now in
    let rest = at_drop_all (λ xs. length (awake (described xs))) cs k c.loop-consist-test.false in
    let total = length_reports 0 (awake (described cs)) in
    let count : c.args.room - c.loop-consist.free ≡ length (true_reports (described cs)) = omega (arith, c.loop-consist.invariant.0, c.loop-consist.invariant.1) in
    let fits : length (true_reports (described cs)) ≤ c.args.room = omega (arith, c.loop-consist.invariant.0, c.loop-consist.invariant.1) in
    record {
      answer = ap Ok count ∙ sym (ap (λ b. cond b (Ok (length (true_reports (described cs)))) (Err (record {}))) (le-leb (length (true_reports (described cs))) c.args.room fits));
      meaning = sent_means cs;
      one_line = fits_one_line;
    }
