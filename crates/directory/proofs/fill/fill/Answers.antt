use Rattle.std.proofs.Common.{◌≡◌, ◌+◌, ◌<◌, max, get_or, take, Some, None, sym, ap, ◌∙◌, arith}
use Rattle.report.specs.Reports.{whole}
use Rattle.train.specs.Rows.{given}
use Rattle.directory.specs.Meaning.{rows_mean}
use Rattle.directory.proofs.Filling.{high_few, top_few, round_not, round_begins, round_ends, round_all, turn_not, turn_put, held_full, nodes_run, subnets_run, no_node, look_past, look_found, look_none, given_low}
use Rattle.directory.proofs.Subnets.{or_next}
use Rattle.directory.proofs.Places.{lookups}
use Rattle.directory.proofs.fill.fill.Goals as goal
use Rattle.directory.proofs.fill.fill.Goals.{then-k-draft, else-k-draft+then-is_of}

pub overflow_add-number : goal.overflow_add-number
overflow_add-number c =
    let r = c.rows.invariant in
    let n = high_few _ _ _ _ _ r.held in
    let few = r.held.few in
    omega (arith, r.number_is)

pub overflow_add-top : goal.overflow_add-top
overflow_add-top c =
    let h = c.loop-network.invariant.held in
    let n = top_few _ _ _ _ _ h in
    let few = h.few in
    omega (arith, c.loop-k.invariant.1)

pub rows-preserved-then-node-eq0 : goal.rows-preserved-then-node-eq0
rows-preserved-then-node-eq0 c = round_not _ _ _ _ _ _ c.rows.invariant c.rows-test.true c.if-node-eq0.true

pub loop-network-init : goal.loop-network-init
loop-network-init c = round_begins _ _ _ _ _ _ c.rows.invariant c.rows-test.true c.if-node-eq0.false

pub loop-network-preserved-then-not-serves : goal.loop-network-preserved-then-not-serves
loop-network-preserved-then-not-serves c = turn_not _ _ _ _ _ _ _ _ c.loop-network.invariant (omega arith) (sym c.if-not-serves.ensures)

pub loop-k-preserved : goal.loop-k-preserved
loop-k-preserved c =
    let l = c.loop-network in
    let h = l.invariant.held in
    let there : c.loop-k.k < l.draft.count = omega (arith, c.loop-k.invariant.0) in
    let u = whole (get_or c.args.nodes.now c.rows.node-index no_node).uuid in
    let past = look_past u l.network c.loop-k.k l.draft.count l.draft.rows h.long h.few there c.if-is_of.ensures in
    (omega arith, c.loop-k.invariant.1, past ∙ c.loop-k.invariant.2)

pub loop-network-preserved : goal.loop-network-preserved
loop-network-preserved c =
    let l = c.loop-network in
    let t = l.invariant in
    let h = t.held in
    let rows = l.draft.rows in
    let count = l.draft.count in
    let u = whole (get_or c.args.nodes.now c.rows.node-index no_node).uuid in
    let rs = rows_mean (take count rows) in
    let s = c.if-k-draft.subnet in
    let met : (s ≡ or_next l.top (given u l.network rs)) × (c.if-k-draft.top ≡ max l.top s) =
    elim c.if-k-draft.branch [
      | then-k-draft w ↦
          let none : given u l.network rs ≡ None =
          sym c.loop-k.invariant.2 ∙ look_none u l.network c.loop-k.k count rows h.long h.few (omega (arith, w.if-k-draft.true))
          in
          let next : s ≡ l.top + 1 = w.subnet-is ∙ ap (λ n. n + 1) c.loop-k.invariant.1 in
          (next ∙ ap (λ o. or_next l.top o) (sym none), omega (arith, w.top-is, c.loop-k.invariant.1))
      | else-k-draft+then-is_of w ↦
          let there : c.loop-k.k < count = omega (arith, w.if-k-draft.false, c.loop-k.invariant.0) in
          let found : given u l.network rs ≡ Some s =
          sym c.loop-k.invariant.2 ∙ look_found u l.network c.loop-k.k count rows h.long h.few there w.if-is_of.ensures
          ∙ ap (λ n. Some n) (sym w.subnet-is)
          in (
            ap (λ o. or_next l.top o) (sym found),
            omega (arith, w.top-is, c.loop-k.invariant.1, given_low rows count l.top _ _ u l.network s h found),
          )
    ]
    in
    rw met.1
    (turn_put _ _ _ _ l.network rows count l.top t _ s (omega arith) (sym c.if-not-serves.ensures) (omega (arith, h.few)) c.row.ensures met.0)

pub rows-preserved : goal.rows-preserved
rows-preserved c =
    let n = get_or c.args.nodes.now c.rows.node-index no_node in
    let byte : n.mask < 256 = omega arith in
    round_ends c.args.nodes.now c.rows.node-index _ _ _ _ _ c.loop-network.invariant (omega arith) (omega arith) byte c.if-node-eq0.false

pub returns-after-rows : goal.returns-after-rows
returns-after-rows c =
    let r = c.rows.invariant in
    record {
      within = r.held.few;
      rows = round_all _ _ _ _ _ _ r c.rows-test.false;
      numbered = nodes_run _ _ _ _ _ r.held;
      subnetted = subnets_run _ _ _ _ _ r.held;
      lookups = lookups;
    }

pub returns-then-draft-eq-ROWS : goal.returns-then-draft-eq-ROWS
returns-then-draft-eq-ROWS c =
    let h = c.loop-network.invariant.held in
    record {
      within = h.few;
      rows = held_full _ _ _ _ _ h c.if-draft-eq-ROWS.true;
      numbered = nodes_run _ _ _ _ _ h;
      subnetted = subnets_run _ _ _ _ _ h;
      lookups = lookups;
    }
