-- What gathered consists mean, each told by one of its nodes: a line whose nodes are all asleep. Assumes nothing.
use Rattle.std.specs.Prelude.{ℕ, Bool, ◌&&◌, List, map, take, Option}
use Rattle.std.specs.Option.{option_map}
use Rattle.report.specs.Reports.{whole}
use Rattle.train.specs.Line.{Coupled, Line}
use Rattle.train.specs.Truth as truth
use Rattle.train.specs.Agreement.{Outline, skeleton}
use Rattle.directory.specs.Meaning.{way_means}
use Rattle.fitting.specs.Assemble.{same_masks, same_way, behind, asleep, assemble}
use Rattle.inauguration.specs.declared.awake.Awake.{Awake}

abbrev pub masks_of : Awake → List ℕ
masks_of a = take a.report.nodes a.report.masks

abbrev pub coupled : Awake → Coupled
coupled a = record { consist = record { uuid = whole a.report.uuid; nodes = asleep (masks_of a) }; way = way_means a.way }

abbrev pub line_of : List Awake → Line
line_of cs = map coupled cs

-- whether the node a, met next, goes on with the consist of m, its node met last: the same masks and way round, and its position is met behind
abbrev pub goes : Awake → Awake → Bool
goes a m =
    same_masks (masks_of a) (masks_of m) && same_way (way_means a.way) (way_means m.way) && behind (way_means m.way) m.report.position a.report.position

-- the UUIDs, masks and ways round of the line assembled from awake nodes
abbrev pub outlines_from : List truth.Awake → Option (List Outline)
outlines_from xs = option_map skeleton (assemble xs)
