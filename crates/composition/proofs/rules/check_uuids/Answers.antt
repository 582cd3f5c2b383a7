use Rattle.std.proofs.Common.{◌-◌, map, get_or, take, sym, ap, ◌∙◌}
use Rattle.std.specs.Option.{option_map}
use Rattle.std.specs.List.{flat_map}
use Rattle.std.proofs.lemmas.List.{at_drop_all}
use Rattle.report.specs.Reports.{whole}
use Rattle.composition.specs.declared.fault.LineFault.TheVariants.{UuidTwice}
use Rattle.composition.specs.Meaning.{described}
use Rattle.composition.specs.Faults.{told, twice_at, uuid_row}
use Rattle.composition.proofs.Steps.{has_uuid, no_consist, twice_not, twice_here, once}
use Rattle.composition.proofs.rules.check_uuids.Goals as goal

pub returns-then-has_uuid : goal.returns-then-has_uuid
returns-then-has_uuid c =
    let k = c.loop-place.place in
    let cs = c.args.consists.now in
    sym (ap (λ o. told (option_map UuidTwice o)) (c.loop-place.invariant ∙ twice_here cs k c.loop-place-test.true uuid_row (once (whole (get_or cs k no_consist).uuid) (flat_map uuid_row (described (take (k - 0) cs))) _ (c.if-has_uuid.ensures ∙ has_uuid (whole (get_or cs k no_consist).uuid) (take (k - 0) cs)))))

pub loop-place-preserved : goal.loop-place-preserved
loop-place-preserved c =
    let k = c.loop-place.place in
    let cs = c.args.consists.now in
    c.loop-place.invariant ∙ twice_not cs k c.loop-place-test.true uuid_row (once (whole (get_or cs k no_consist).uuid) (flat_map uuid_row (described (take (k - 0) cs))) _ (c.if-has_uuid.ensures ∙ has_uuid (whole (get_or cs k no_consist).uuid) (take (k - 0) cs)))

pub returns : goal.returns
returns c =
    let k = c.loop-place.place in
    let cs = c.args.consists.now in
    let end = at_drop_all (λ xs. twice_at k (flat_map uuid_row (described (take k cs))) (map uuid_row (described xs))) cs k c.loop-place-test.false in
    sym (ap (λ o. told (option_map UuidTwice o)) (c.loop-place.invariant ∙ end))
