use Rattle.std.proofs.Common.{lit<, length, rules, sym, false, ◌∙◌}
use borrow.Author.Tests.{tests}
use Rattle.std.proofs.lemmas.List.{take-replicate}
use Rattle.inauguration.proofs.Kept.{get_or_means, kept_start, kept_met, kept_less, kept_room, kept_step}
use Rattle.inauguration.proofs.chain.find_chain.Goals as goal

pub loop-met-init : goal.loop-met-init
loop-met-init c = kept_start c.args.held.now _ _ _ (take-replicate (length c.args.held.now) 63 false c.requires) c.new-chain.ensures (search rules ∙ c.end_mac.ensures)

pub returns-then-met-place : goal.returns-then-met-place
returns-then-met-place c =
    kept_met _ _ _ _ _ c.loop-met.invariant c.in_ok-place.place (sym c.in_ok-place.ensures.place) (search (rules, tests)) c.if-met-place.true

pub push-requires : goal.push-requires
push-requires c =
    (lit< tt, kept_room _ _ _ _ _ c.loop-met.invariant c.in_ok-place.place (sym c.in_ok-place.ensures.place) (search (rules, tests)) c.if-met-place.false c.requires)

pub loop-met-smaller : goal.loop-met-smaller
loop-met-smaller c =
    kept_less _ _ _ _ _ c.loop-met.invariant c.in_ok-place.place (sym c.in_ok-place.ensures.place) (search (rules, tests)) c.if-met-place.false

pub loop-met-preserved : goal.loop-met-preserved
loop-met-preserved c =
    kept_step _ _ _ _ _ c.loop-met.invariant c.in_ok-place.place (sym c.in_ok-place.ensures.place) (search (rules, tests)) c.if-met-place.false _ _ _ _
    (get_or_means c.args.held.now c.in_ok-place.place _ c.in_ok-place.ensures.within) c.seen_from-way.ensures.way c.seen_from-way.ensures.next c.push.ensures.items
