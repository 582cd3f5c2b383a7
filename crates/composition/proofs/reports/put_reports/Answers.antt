use Rattle.std.proofs.Common.{◌≡◌, ◌+◌, cond, ◌++◌, map, length, get_or, take, drop, sym, ap, ◌∙◌, arith}
use Rattle.std.proofs.lemmas.List.{at_drop_more, at_drop_all, length-append, length-map, append-nil, take_rest, drop-drop, take-append-drop}
use Rattle.std.proofs.lemmas.Bool.{le-leb}
use Rattle.train.specs.Truth.{awake_of, awake, first_mac, reports, true_reports}
use Rattle.composition.specs.Meaning.{consist_means, described}
use Rattle.composition.specs.Sending.{coded, sent}
use Rattle.composition.proofs.Sending.{length_reports, joins}
use Rattle.composition.proofs.Steps.{no_consist}
use Rattle.composition.proofs.reports.put_reports.Goals as goal

pub put_consist-end-requires : goal.put_consist-end-requires
put_consist-end-requires c =
    let i = c.loop-i.i in
    let cs = c.args.consists.now in
    let s = consist_means (get_or cs i no_consist) in
    let here = ap length (at_drop_more (λ xs. awake (described xs)) cs i no_consist c.loop-i-test.true) ∙ length-append (awake_of s) (awake (described (drop (i + 1) cs))) in
    omega (arith, here, c.loop-i.invariant.1, c.loop-i.auto.out, c.requires, length_reports 0 (awake (described cs)))

pub loop-i-preserved : goal.loop-i-preserved
loop-i-preserved c =
    let i = c.loop-i.i in
    let cs = c.args.consists.now in
    let s = consist_means (get_or cs i no_consist) in
    let rest = awake (described (drop (i + 1) cs)) in
    let inv = c.loop-i.invariant in
    let put = c.put_consist-end.ensures in
    let at = c.loop-i.at in
    let out = c.loop-i.out in
    let left = c.loop-i.left.0 in
    let end = c.put_consist-end.result.0 in
    let last = c.put_consist-end.result.1.0 in
    let here = at_drop_more (λ xs. awake (described xs)) cs i no_consist c.loop-i-test.true in
    let after = c.first_mac-right.ensures ∙ ap (λ xs. first_mac (awake (described xs))) (take_rest cs (i + 1)) in
    let n = length (awake_of s) in
    let apart = length-append (awake_of s) rest in (
      ap (λ xs. xs ++ map coded (reports last rest)) put.front ∙ joins (take at out) left (awake_of s) rest c.first_mac-right.result.0 last after put.lasts
          ∙ sym (ap (λ xs. take at out ++ map coded (reports left xs)) here) ∙ inv.0,
      omega (arith, put.ends, ap length here, apart, inv.1),
      put.back ∙ ap (λ k. drop k out) put.ends ∙ sym (drop-drop n at out) ∙ ap (drop n) inv.2 ∙ drop-drop n at c.args.out.now ∙ ap (λ k. drop k c.args.out.now) (sym put.ends),
    )

pub returns : goal.returns
returns c =
    let i = c.loop-i.i in
    let cs = c.args.consists.now in
    let l = described cs in
    let inv = c.loop-i.invariant in
    let at = c.loop-i.at in
    let out = c.loop-i.out in
    let before = c.args.out.now in
    let none = at_drop_all (λ xs. awake (described xs)) cs i c.loop-i-test.false in
    let front = sym (append-nil (take at out)) ∙ sym (ap (λ xs. take at out ++ map coded (reports c.loop-i.left.0 xs)) none) ∙ inv.0 in
    let count : at ≡ length (sent l) = omega (arith, inv.1, ap length none, length_reports 0 (awake l), length-map (true_reports l) coded) in
    sym (take-append-drop at out) ∙ (λ j. front j ++ inv.2 j) ∙ ap (λ k. sent l ++ drop k before) count
    ∙ sym (ap (λ b. cond b (sent l ++ drop (length (sent l)) before) before) (le-leb (length (true_reports l)) (length before) c.requires))
