use Rattle.std.proofs.Common.{◌≡◌, ◌-◌, length, take, sym, ap, ◌∙◌, arith}
use Rattle.std.proofs.lemmas.List.{length-map}
use Rattle.directory.specs.Meaning.{row_means}
use Rattle.directory.proofs.directory.Directory.rows.Goals as goal

pub returns : goal.returns
returns c =
    let d = c.args.self.now in
    let all : d.count - 0 ≡ d.count = omega arith in
    let front = ap (λ n. take n d.rows) all in
    record { rows = front; many = ap length front ∙ sym (length-map (take d.count d.rows) row_means) }
