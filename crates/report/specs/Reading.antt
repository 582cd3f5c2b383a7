-- How a row of words is read: what is asked of each word, the first that is wrong, and the values. Assumes nothing.
use Rattle.std.specs.Prelude.{ℕ, ◌+◌, ◌*◌, ◌/◌, ◌%◌, ◌^◌, min, Bool, false, cond, ◌&&◌, List, [], ◌∷◌, ◌++◌, map, length, take, drop, replicate, Some, None, Ok, Err, Option, Result, ◌==◌, nat_le, nat_lt, slice_index, slice_index_or}
use Rattle.report.specs.declared.fault.WordFault.{WordFault}
use Rattle.report.specs.declared.fault.WordFault.TheVariants.{Missing, Wrong, Extra}
use Rattle.report.specs.Masks.{gapless, is_mask}
use Rattle.report.specs.Reports.{Report, is_mac, is_uuid}
use Rattle.report.specs.Refusals.{Refusal, word_refusal}

-- The values in a row.
-- how many nodes word 0 says that the consist has, of which there are at most 4
abbrev pub nodes_in : List ℕ → ℕ
nodes_in ws = min (slice_index ws 0 % 16) 4

abbrev pub position_in : List ℕ → ℕ
position_in ws = slice_index ws 0 / 16 % 16

-- a MAC in two words of 24 bits, from place k
abbrev pub mac_in : ℕ → List ℕ → ℕ
mac_in k ws = slice_index ws k % 2 ^ 24 * 2 ^ 24 + slice_index ws (k + 1) % 2 ^ 24

abbrev pub uuid_in : List ℕ → ℕ
uuid_in ws =
    slice_index ws 7 % 2 ^ 16 * 2 ^ 112 + slice_index ws 8 % 2 ^ 28 * 2 ^ 84 + slice_index ws 9 % 2 ^ 28 * 2 ^ 56
    + slice_index ws 10 % 2 ^ 28 * 2 ^ 28 + slice_index ws 11 % 2 ^ 28

abbrev pub masks_in : List ℕ → List ℕ
masks_in ws = map (λ w. w % 2 ^ 8) (take (nodes_in ws) (drop 12 ws))

-- four places, 0 past the masks
abbrev pub padded : List ℕ → List ℕ
padded ms = slice_index ms 0 ∷ slice_index ms 1 ∷ slice_index ms 2 ∷ slice_index ms 3 ∷ []

abbrev pub report_in : List ℕ → Report
report_in ws = record {
  mac = mac_in 1 ws;
  side1 = mac_in 3 ws;
  side2 = mac_in 5 ws;
  uuid = uuid_in ws;
  position = position_in ws;
  masks = masks_in ws;
}

-- What is asked of a word.
-- this kind, and a load of so many bits
abbrev pub of : ℕ → ℕ → ℕ → Bool
of kind bits w = w / 2 ^ 28 == kind && nat_lt (w % 2 ^ 28) (2 ^ bits)

-- N from 1 to 4, and a position from 1 to N
abbrev pub head : ℕ → Bool
head w = of 1 8 w && nat_le (w % 16) 4 && nat_le 1 (w / 16 % 16) && nat_le (w / 16 % 16) (w % 16)

abbrev pub mask_word : ℕ → Bool
mask_word w = of 4 8 w && is_mask (w % 2 ^ 8)

-- the end of a row whose masks leave no gap
abbrev pub end_word : List ℕ → ℕ → Bool
end_word ws w = w == 0 && gapless (masks_in ws)

-- One test for each word of the row: those before the masks, then the masks and the end.
abbrev pub before : List ℕ → List (ℕ → Bool)
before ws =
    head
    ∷ of 2 24 ∷ (λ w. of 2 24 w && is_mac (mac_in 1 ws))
    ∷ of 2 24 ∷ of 2 24
    ∷ of 2 24 ∷ of 2 24
    ∷ of 3 16 ∷ of 3 28 ∷ of 3 28 ∷ of 3 28 ∷ (λ w. of 3 28 w && is_uuid (uuid_in ws)) ∷ []

abbrev pub behind : List ℕ → List (ℕ → Bool)
behind ws = replicate (nodes_in ws) mask_word ++ end_word ws ∷ []

abbrev pub asked : List ℕ → List (ℕ → Bool)
asked ws = before ws ++ behind ws

-- what is asked of a word at place k
abbrev pub test_at : List ℕ → ℕ → ℕ → Bool
test_at ws k w = slice_index_or (asked ws) k (λ _. false) w

-- the word at place k is there and is what is asked
abbrev pub right : List ℕ → ℕ → Bool
right ws k = nat_lt k (length ws) && test_at ws k (slice_index ws k)

-- The first word, counted from k, that is missing, refused by its test, or behind the last.
abbrev pub first_wrong : ℕ → List (ℕ → Bool) → List ℕ → Option WordFault
first_wrong k [] [] = None
first_wrong k [] (w ∷ ws) = Some (Extra k)
first_wrong k (t ∷ ts) [] = Some (Missing k)
first_wrong k (t ∷ ts) (w ∷ ws) = cond (t w) (first_wrong (k + 1) ts ws) (Some (Wrong k))

abbrev pub answer : Option WordFault → Report → Result Report Refusal
answer (Some fault) r = Err (word_refusal fault)
answer None r = Ok r

abbrev pub read : List ℕ → Result Report Refusal
read ws = answer (first_wrong 0 (asked ws) ws) (report_in ws)
