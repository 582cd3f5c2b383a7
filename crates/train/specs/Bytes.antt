-- The bytes of rows, and the counter. Assumes nothing.
use Rattle.std.specs.Prelude.{ℕ, zero, suc, ◌+◌, ◌*◌, ◌/◌, ◌%◌, ◌^◌, List, [], ◌∷◌, ◌++◌}
use Rattle.std.specs.List.{flat_map}
use Rattle.counter.specs.Crc.{crc}
use Rattle.train.specs.Line.{Way, forward, turned, Line}
use Rattle.train.specs.Rows.{Row, rows}

-- the low n bytes of a number, the high one first
abbrev pub big_endian : ℕ → ℕ → List ℕ
big_endian zero x = []
big_endian (suc n) x = (x / 256 ^ n % 256) ∷ big_endian n x

abbrev pub direction : Way → ℕ
direction forward = 1
direction turned = 2

-- the network in bits 29 to 24, the subnet in 21 to 16, the node in 13 to 8, the direction in 1 to 0
abbrev pub row_word : Row → ℕ
row_word r = r.cn * 2 ^ 24 + r.subnet * 2 ^ 16 + r.node * 2 ^ 8 + direction r.way

abbrev pub row_bytes : Row → List ℕ
row_bytes r = big_endian 16 r.uuid ++ big_endian 4 (row_word r)

abbrev pub rows_bytes : List Row → List ℕ
rows_bytes rs = flat_map row_bytes rs

abbrev pub counter : Line → ℕ
counter l = crc (rows_bytes (rows l))
