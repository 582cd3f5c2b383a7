use Rattle.std.proofs.Common.{ℕ, List, [], ◌∷◌, ◌++◌, ◌∙◌}
use borrow.Rule.Slice.PartMut.{put_mid}
use Rattle.directory.proofs.row.Row.bytes.Goals as goal

pub returns : goal.returns
returns c =
    let uuid = c.copy_from_slice.ensures.after ∙ c.uuid.ensures in
    let word = c.copy_from_slice-2.ensures.after ∙ c.word.ensures in
    let zeros : List ℕ = 0 ∷ 0 ∷ 0 ∷ 0 ∷ [] in
    (λ i. put_mid 16 4 (uuid i ++ zeros) (word i))
