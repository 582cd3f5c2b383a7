use Rattle.std.proofs.Common.{◌+◌, ◌*◌, ◌^◌, sym, ap, ◌∙◌, arith}
use Rattle.train.specs.Bytes.{big_endian}
use Rattle.directory.proofs.Octets.{word_bytes}
use Rattle.directory.proofs.bytes.word.Goals as goal

pub returns : goal.returns
returns c =
    let a = c.args in
    sym (word_bytes a.network a.subnet a.node c.from.result (omega arith) (omega arith) (omega arith) (omega arith))
    ∙ ap (λ d. big_endian 4 (a.network * 2 ^ 24 + a.subnet * 2 ^ 16 + a.node * 2 ^ 8 + d)) c.from.ensures
