use Rattle.std.proofs.Common.{◌-◌, length, rules, sym, ap, ◌∙◌, arith}
use borrow.Author.Tests.{tests}
use Rattle.std.specs.List.{slice_get}
use Rattle.std.proofs.lemmas.List.{at_drop_more, at_drop_all}
use Rattle.std.specs.Option.{option_map}
use Rattle.train.specs.Agreement.{skeleton}
use Rattle.inauguration.specs.Meaning.{nodes_mean}
use Rattle.inauguration.specs.Consists.{line_of, outlines_from}
use Rattle.inauguration.proofs.Readings.{no_node}
use Rattle.inauguration.proofs.Gathered.{gathered_start, gathered_new, gathered_on, stops_other, stops_mixed, some_last, gathered_end}
use Rattle.inauguration.proofs.gather.gather.Goals as goal
use Rattle.inauguration.proofs.gather.gather.Goals.{in-None, in-Some+in_ok-last-in-Some+else-ne+else-not-goes_on, then-ne-via-then-ne, then-ne-via-else-ne+then-not-goes_on}

pub loop-node-init : goal.loop-node-init
loop-node-init c = gathered_start _ _ _ _ (omega arith) c.new-table.ensures.live (ap length c.new-table.ensures.slots) c.new-consists.ensures

pub returns-in_err-last-in-Some : goal.returns-in_err-last-in-Some
returns-in_err-last-in-Some c =
    let is = at_drop_more (λ ys. ys) c.deref-node-items.result.now c.loop-node.node-index no_node c.loop-node-test.true in
    let key = c.uuid-uuid.ensures in
    absurd (some_last _ _ _ _ is _ _ _ c.loop-node.invariant c.uuid-uuid.result key.value key.high key.low c.in-Some.met (sym c.in-Some.ensures)
    (c.in_err-last-in-Some.ensures.value ∙ ap (λ ys. slice_get ys (length ys - 1)) c.deref.ensures.0))

pub returns-then-ne : goal.returns-then-ne
returns-then-ne c =
    let is = at_drop_more (λ ys. ys) c.deref-node-items.result.now c.loop-node.node-index no_node c.loop-node-test.true in
    let key = c.uuid-uuid.ensures in
    let last = sym (c.in_ok-last-in-Some.ensures.value ∙ ap (λ ys. slice_get ys (length ys - 1)) c.deref.ensures.0) in
    (elim c.then-ne.branch [
      | then-ne-via-then-ne w ↦ stops_other _ _ _ _ is _ _ _ c.loop-node.invariant c.uuid-uuid.result key.value key.high key.low c.in-Some.met (sym c.in-Some.ensures) c.in_ok-last-in-Some.last.now last (search (rules, tests))
      | then-ne-via-else-ne+then-not-goes_on w ↦ stops_mixed _ _ _ _ is _ _ _ c.loop-node.invariant c.uuid-uuid.result key.value key.high key.low c.in-Some.met (sym c.in-Some.ensures) c.in_ok-last-in-Some.last.now last (search (rules, tests)) (search (rules, tests))
    ]) ∙ ap (λ ys. outlines_from (nodes_mean ys)) c.deref-node-items.ensures.0

pub loop-node-preserved : goal.loop-node-preserved
loop-node-preserved c =
    let is = at_drop_more (λ ys. ys) c.deref-node-items.result.now c.loop-node.node-index no_node c.loop-node-test.true in
    let key = c.uuid-uuid.ensures in
    elim c.match-find.branch [
      | in-None w ↦ gathered_new _ _ _ _ is _ _ _ c.loop-node.invariant c.uuid-uuid.result key.value key.high key.low (sym w.in-None.ensures) _ _ _ c.store.ensures.live c.store.ensures.slots (ap (λ v. v.items) w.consists-is ∙ w.push.ensures.items)
      | in-Some+in_ok-last-in-Some+else-ne+else-not-goes_on w ↦ gathered_on _ _ _ _ is _ _ _ c.loop-node.invariant c.uuid-uuid.result key.value key.high key.low w.in-Some.met (sym w.in-Some.ensures) w.in_ok-last-in-Some.last.now
          (sym (w.in_ok-last-in-Some.ensures.value ∙ ap (λ ys. slice_get ys (length ys - 1)) w.deref.ensures.0)) (search (rules, tests)) (search (rules, tests)) _ _ _ c.store.ensures.live c.store.ensures.slots (ap (λ v. v.items) w.consists-is)
    ]

pub returns : goal.returns
returns c =
    ap (option_map (λ v. skeleton (line_of v.items))) c.then_some.ensures
    ∙ gathered_end (λ v. v.items) c.loop-node.consists _ _ _ _ c.loop-node.invariant (at_drop_all (λ ys. ys) c.deref-node-items.result.now c.loop-node.node-index c.loop-node-test.false) c.is_empty.result c.is_empty.ensures
    ∙ ap (λ ys. outlines_from (nodes_mean ys)) c.deref-node-items.ensures.0
