use Rattle.std.proofs.Common.{◌≡◌, length, arith, rules}
use Rattle.report.proofs.Written.{ranges, length_words}
use Rattle.report.proofs.Report.count.Goals as goal

pub returns : goal.returns
returns c =
    let r = c.args.self.now in
    let four : length r.masks ≡ 4 = search rules in
    let long = length_words r c.requires four in
    let few = (ranges r c.requires).few in
    record { words = omega arith; most = omega arith }
