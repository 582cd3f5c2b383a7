use Rattle.std.proofs.Common.{◌≡◌, ◌+◌, ◌-◌, take, drop, Some, None, sym, ap, ◌∙◌, subst, arith, MatchResult}
use Rattle.std.proofs.lemmas.Result.{err_from_is_err_and}
use Rattle.hello_read.specs.Hellos.{first_wrong, means, hello_of}
use Rattle.hello_read.specs.Layout.{hello_in}
use Rattle.hello_read.specs.Reading.{contents_at, asked, Refuses}
use Rattle.hello_read.proofs.Judging.{refuses}
use Rattle.hello_read.proofs.read.read_hello.Goals as goal

pub returns-in_err-fields : goal.returns-in_err-fields
returns-in_err-fields c =
    let out = err_from_is_err_and c.from_residual.result c.from_residual.ensures.1 in
    let frame = c.args.frame.now in
    let at = c.args.at in
    let size : at + 2 + 86 - (at + 2) ≡ 86 = omega arith in
    let told : first_wrong (asked (contents_at at frame)) ≡ Some c.in_err-fields.field-0.0 =
    ap (λ n. first_wrong (asked (take n (drop (at + 2) frame)))) (sym size) ∙ c.in_err-fields.ensures
    in
    let so = refuses (first_wrong (asked (contents_at at frame))) c.in_err-fields.field-0.0 out.0 told out.2 in
    subst (λ r. MatchResult r (λ h. (means h ≡ hello_in (contents_at at frame)) × (first_wrong (asked (contents_at at frame)) ≡ None)) (λ e. Refuses (first_wrong (asked (contents_at at frame))) e)) (sym out.1) so

pub returns : goal.returns
returns c =
    let frame = c.args.frame.now in
    let at = c.args.at in
    let size : at + 2 + 86 - (at + 2) ≡ 86 = omega arith in
    let told = c.in_ok-fields.ensures in
    let vendor = c.part.ensures.value in
    let uuid = c.part-2.ensures.value in (
      (λ i. hello_of c.in_ok-fields.fields (vendor i) (uuid i)) ∙ told.0 ∙ ap (λ n. hello_in (take n (drop (at + 2) frame))) size,
      ap (λ n. first_wrong (asked (take n (drop (at + 2) frame)))) (sym size) ∙ told.1,
    )
