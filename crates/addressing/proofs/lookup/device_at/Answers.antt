use Rattle.std.proofs.Common.{sym, ap, ◌∙◌, arith}
use Rattle.std.specs.Option.{is_some}
use Rattle.std.proofs.lemmas.Bool.{false≢true}
use Rattle.std.proofs.lemmas.Result.{OkIff-decides}
use Rattle.plan.specs.Places.{place_means}
use Rattle.addressing.specs.Devices.{device_told}
use Rattle.addressing.proofs.Places.{no_node}
use Rattle.addressing.proofs.lookup.device_at.Goals as goal

pub returns-in_err-number : goal.returns-in_err-number
returns-in_err-number c =
    ap device_told c.from_residual.ensures ∙ no_node c.args.directory.now (place_means c.args.place) (omega arith) (λ low.
    let fits = (OkIff-decides _ _ _ c.try_from.ensures).1 (omega (arith, low)) in
    false≢true (sym (ap is_some c.in_err-number.was) ∙ c.ok.ensures.variant ∙ fits))
