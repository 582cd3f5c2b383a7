use Rattle.fitting.proofs.Answers.{answers, same_answers}
use Rattle.inauguration.specs.Answered.{held_reports}
use Rattle.inauguration.proofs.call.inaugurate.Goals as goal

pub returns-clause-right : goal.returns-clause-right
returns-clause-right c = answers c.args.own.0 (held_reports c.args.held.now)

pub returns-clause-agreed : goal.returns-clause-agreed
returns-clause-agreed c = same_answers c.args.own.0 (held_reports c.args.held.now)
