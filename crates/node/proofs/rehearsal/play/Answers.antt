use Rattle.std.proofs.Common.{◌≡◌, ℕ, ◌<◌, length, take, ◌∙◌, subst, arith}
use Rattle.std.proofs.lemmas.List.{length-take}
use Rattle.node.specs.Seen.{seen}
use Rattle.node.proofs.Plays.{Playing, play_none, play_more, play_all, plays_within}
use Rattle.node.proofs.rehearsal.play.Goals as goal

pub loop-i-init : goal.loop-i-init
loop-i-init g c = play_none _ _ _ _ _

pub loop-i-preserved : goal.loop-i-preserved
loop-i-preserved g c =
    let h : c.loop-i.i < length c.args.calls.now = omega arith in
    let k : c.loop-i.i < length c.loop-i.records = omega arith in
    play_more _ _ _ _ _ _ _ _ _ _ _ _ _ h k c.loop-i.invariant c.record.ensures.step c.record.ensures.output

pub returns : goal.returns
returns g c =
    let out = c.args.output.now in
    let room = c.min-room.result in
    let long : length c.loop-i.output ≡ room = c.loop-i.auto.output ∙ length-take room out ∙ omega (arith, c.min-room.ensures) in
    let e : c.loop-i.i ≡ c.min-count.result = omega arith in
    let all = play_all _ _ _ _ _ _ _ _ _ _ _ c.start-node.ensures c.min-count.ensures
    (subst (λ (n : ℕ). Playing (g.P.Plan.means c.args.plan.now) (seen c.start-node.result) c.args.calls.now (take room out) c.loop-i.output
    c.args.records.now c.loop-i.records n (seen c.loop-i.node)) e c.loop-i.invariant) in
    let p = plays_within out room c.min-room.ensures _ _ _ _ c.loop-i.output _ _ _ long all in
    record { plays = p.0; unused = p.1 }
