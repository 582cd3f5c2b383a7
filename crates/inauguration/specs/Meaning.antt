-- What held reports and the awake nodes of the code mean. Assumes nothing.
use Rattle.std.specs.Prelude.{List, map}
use Rattle.report.specs.declared.Report as code
use Rattle.report.specs.Reports.{Report, means}
use Rattle.train.specs.Truth.{Awake}
use Rattle.directory.specs.Meaning.{way_means}
use Rattle.fitting.specs.Walk.{standing}
use Rattle.inauguration.specs.declared.awake.Awake as node

abbrev pub all_mean : List code.Report → List Report
all_mean held = map means held

abbrev pub node_means : node.Awake → Awake
node_means a = standing (way_means a.way) (means a.report)

abbrev pub nodes_mean : List node.Awake → List Awake
nodes_mean xs = map node_means xs
