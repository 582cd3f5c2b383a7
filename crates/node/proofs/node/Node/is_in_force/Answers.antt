use Rattle.directory.specs.Meaning.{rows_of}
use Rattle.node.proofs.Rows.{decided_rows}
use Rattle.node.proofs.node.Node.is_in_force.Goals as goal

pub returns : goal.returns
returns c = decided_rows c.same.result (rows_of c.args.directory.now) (rows_of c.args.self.now.directory) c.same.ensures
