-- The words of a report. Assumes nothing.
use Rattle.std.specs.Prelude.{ℕ, ◌+◌, ◌*◌, ◌/◌, ◌%◌, ◌^◌, List, [], ◌∷◌, ◌++◌, map, length}
use Rattle.report.specs.declared.layout.Kind.{Kind}
use Rattle.report.specs.declared.layout.Kind.TheVariants.{Head, Mac, Uuid, Mask}
use Rattle.report.specs.Reports.{Report}

-- the number of a kind of words
abbrev pub number : Kind → ℕ
number Head = 1
number Mac = 2
number Uuid = 3
number Mask = 4

-- a word: its kind in the top 4 bits, and its load in the low 28
abbrev pub word : ℕ → ℕ → ℕ
word kind load = kind * 2 ^ 28 + load

-- a MAC in two words, and a UUID in five
abbrev pub mac_words : ℕ → List ℕ
mac_words m = word 2 (m / 2 ^ 24) ∷ word 2 (m % 2 ^ 24) ∷ []

abbrev pub uuid_words : ℕ → List ℕ
uuid_words u =
    word 3 (u / 2 ^ 112)
    ∷ word 3 (u / 2 ^ 84 % 2 ^ 28) ∷ word 3 (u / 2 ^ 56 % 2 ^ 28) ∷ word 3 (u / 2 ^ 28 % 2 ^ 28) ∷ word 3 (u % 2 ^ 28) ∷ []

abbrev pub words : Report → List ℕ
words r =
    word 1 (16 * r.position + length r.masks)
    ∷ (mac_words r.mac ++ (mac_words r.side1 ++ (mac_words r.side2
    ++ (uuid_words r.uuid
    ++ (map (word 4) r.masks ++ word 0 0 ∷ [])))))
