-- Within the limits there is room for the rows, and each value fits its bits. Assumes nothing.
use Rattle.std.proofs.Common.{◌≡◌, ℕ, ◌+◌, ◌*◌, ◌^◌, ◌<◌, ◌≤◌, List, [], ◌∷◌, ◌++◌, map, reverse, length, refl, ap, ◌∙◌, ap₂, arith}
use mathlib.Core.List.{reverse_aux, map-append}
use Rattle.std.proofs.lemmas.List.{length-map}
use Rattle.train.specs.Line.{Way, forward, turned, masks, Line}
use Rattle.train.specs.Truth.{In}
use Rattle.train.specs.Rules.{IsLine, set_bits, bit_count, Within}
use Rattle.train.specs.Rows.{reading, counted, nodes_in, met_in, met, Row, rows}
use Rattle.train.specs.Bytes.{big_endian, direction}
use Rattle.train.specs.Theorems.{RowFits, LimitsSuffice}
use Rattle.train.proofs.Members.{map_reverse, map-map, in_map, all_from_in, counted_elements}
use Rattle.train.proofs.Networks.{networks_between}
use Rattle.train.proofs.Totals.{total_reading}
use Rattle.train.proofs.Meetings.{rows_length, row_node}
use Rattle.train.proofs.Places.{nodes_read}
use Rattle.train.proofs.Numbered.{numbered_line}

-- the set bits of the nodes met
bits_append : (ms ns : List ℕ) → set_bits (ms ++ ns) ≡ set_bits ms + set_bits ns
bits_append [] ns = omega arith
bits_append (m ∷ ms) ns = omega (arith, bits_append ms ns)

bits_rev : (ms ns : List ℕ) → set_bits (reverse_aux ms ns) ≡ set_bits ms + set_bits ns
bits_rev [] ns = omega arith
bits_rev (m ∷ ms) ns = omega (arith, bits_rev ms (m ∷ ns))

masks_in : (u : ℕ) (ms : List ℕ) (w : Way) → map (λ x. x.mask) (nodes_in u ms w) ≡ ms
masks_in u ms w = map-map (λ x. x.mask) _ (counted 1 ms) ∙ counted_elements 1 ms

bits_in : (u : ℕ) (ms : List ℕ) (w : Way) → set_bits (map (λ x. x.mask) (met_in u ms w)) ≡ set_bits ms
bits_in u ms forward = ap set_bits (masks_in u ms forward)
bits_in u ms turned =
    ap set_bits (map_reverse (λ x. x.mask) (nodes_in u ms turned) ∙ ap reverse (masks_in u ms turned)) ∙ omega (arith, bits_rev ms [])

bits_met : (l : Line) → set_bits (map (λ x. x.mask) (met l)) ≡ bit_count l
bits_met [] = refl
bits_met (s ∷ l) =
    let xs = met_in s.consist.uuid (masks s.consist) s.way in
    ap set_bits (map-append (λ x. x.mask) xs (met l)) ∙ bits_append (map (λ x. x.mask) xs) (map (λ x. x.mask) (met l))
    ∙ ap₂ ◌+◌ (bits_in s.consist.uuid (masks s.consist) s.way) (bits_met l)

pub rows_count : (l : Line) → length (rows l) ≡ bit_count l
rows_count l = rows_length (met (reading l)) ∙ bits_met (reading l) ∙ total_reading _ l

-- the bytes of a row's word
pub word_bytes : (a b c d : ℕ) → a < 256 → b < 256 → c < 256 → d < 256 → big_endian 4 (a * 2 ^ 24 + b * 2 ^ 16 + c * 2 ^ 8 + d) ≡ a ∷ b ∷ c ∷ d ∷ []
word_bytes a b c d ha hb hc hd = ap₂ ◌∷◌ (omega arith) (ap₂ ◌∷◌ (omega arith) (ap₂ ◌∷◌ (omega arith) (ap₂ ◌∷◌ (omega arith) refl)))

direction_below : (w : Way) → direction w < 256
direction_below forward = omega arith
direction_below turned = omega arith

row_fits : (l : Line) → IsLine l → Within l → (r : Row) → In r (rows l) → RowFits r
row_fits l h w r i =
    let n = numbered_line l h in
    let x = row_node (met (reading l)) r i in
    let c = networks_between x.0.mask r.cn x.2 in
    let s = n.subnets.between r.subnet (in_map (λ q. q.subnet) r (rows l) i) in
    let k = n.nodes.between r.node (in_map (λ q. q.node) r (rows l) i) in
    let s63 : r.subnet ≤ 63 = omega (arith, s.1, w.networked) in
    let k63 : r.node ≤ 63 = omega (arith, k.1, w.nodes) in
    record {
      cn = c;
      subnet = (s.0, s63);
      node = (k.0, k63);
      bytes = word_bytes r.cn r.subnet r.node (direction r.way) (omega (arith, c.1)) (omega arith) (omega arith) (direction_below r.way);
    }

pub limits_suffice : LimitsSuffice
limits_suffice = record {
  counts = λ l. record { nodes = length-map (met (reading l)) _ ∙ nodes_read l; rows = rows_count l };
  few_rows = λ l w. omega (arith, rows_count l, w.bits);
  rows_fit = λ l h w. all_from_in RowFits (rows l) (row_fits l h w);
}
