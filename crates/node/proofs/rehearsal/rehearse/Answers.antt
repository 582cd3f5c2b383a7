use Rattle.runs.proofs.EveryRun.{every_run}
use Rattle.runs.proofs.WorkedCases.{worked_cases}
use Rattle.node.proofs.rehearsal.rehearse.Goals as goal

pub returns : goal.returns
returns g c =
    let one = c.play-played.ensures in
    let two = c.play.ensures in
    record {
      first = record { plays = one.plays; unused = one.unused };
      second = record { plays = two.plays; unused = two.unused };
      promise = every_run _ _ _ one.plays.state two.plays.state (g.met.P.Plan.lawful c.args.plan.now) one.plays.run two.plays.run;
      cases = worked_cases;
    }
