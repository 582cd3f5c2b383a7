use Rattle.std.proofs.Common.{ℕ, List, [], ◌∷◌, ◌++◌, sym, ◌∙◌, arith}
use borrow.Rule.Slice.PartMut.{put_mid}
use Rattle.directory.proofs.Octets.{halves}
use Rattle.directory.proofs.bytes.uuid.Goals as goal

pub returns : goal.returns
returns c =
    let high = c.copy_from_slice.ensures.after ∙ c.to_be_bytes.ensures in
    let low = c.copy_from_slice-2.ensures.after ∙ c.to_be_bytes-2.ensures in
    let zeros : List ℕ = 0 ∷ 0 ∷ 0 ∷ 0 ∷ 0 ∷ 0 ∷ 0 ∷ 0 ∷ [] in
    (λ i. put_mid 8 8 (high i ++ zeros) (low i)) ∙ sym (halves c.args.high c.args.low (omega arith))
