use Rattle.std.proofs.Common.{◌≡◌, ◌-◌, ap, ◌∙◌, arith}
use Rattle.hello_read.specs.Layout.{number}
use Rattle.hello_read.proofs.Numbers.{number_fits, padded}
use Rattle.hello_read.proofs.read.number_at.Goals as goal

pub returns : goal.returns
returns c =
    let bytes = c.part.result.now in
    let is : c.from_be_bytes.result ≡ number bytes =
    c.from_be_bytes.ensures ∙ padded (8 - c.args.field.bytes) c.copy_from_slice.new.self bytes (omega (arith, c.part.ensures.size, c.requires.1)) c.copy_from_slice.ensures.after
    in
    record {
      value = is ∙ ap number c.part.ensures.value;
      fits = rw is (number_fits c.args.field.at c.args.field.bytes c.args.contents.now bytes c.type_inv.contents c.part.ensures.value c.part.ensures.size);
    }
