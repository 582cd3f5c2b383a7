-- The bytes of rows, side by side. Assumes nothing.
use Rattle.std.proofs.Common.{◌≡◌, ℕ, ◌+◌, ◌*◌, ◌/◌, ◌%◌, ◌^◌, ◌<◌, ◌≤◌, List, [], ◌∷◌, ◌++◌, length, get_or, take, drop, sym, refl, ap, ◌∙◌, arith}
use native.Mathlib.Nat.{div-div-eq-div-mul}
use borrow.Rule.Slice.PartMut.{put_mid}
use Rattle.std.proofs.lemmas.List.{append_assoc, flat_map_more, map_more, length-append, length-map, length-take-le, take_at, drop_at, drop-drop}
use Rattle.keyed.specs.Table.{written}
use Rattle.train.specs.Rows.{Row}
use Rattle.train.specs.Bytes.{big_endian, row_bytes, rows_bytes}
use Rattle.directory.specs.declared.row.Row as code
use Rattle.directory.specs.Meaning.{blank, row_means, rows_mean}

-- a half of a UUID
abbrev pub half : ℕ → List ℕ
half x =
    x / 2 ^ 56 % 256 ∷ x / 2 ^ 48 % 256 ∷ x / 2 ^ 40 % 256 ∷ x / 2 ^ 32 % 256 ∷ x / 2 ^ 24 % 256 ∷ x / 2 ^ 16 % 256 ∷ x / 2 ^ 8 % 256 ∷ x % 256 ∷ []

module _ (h l : ℕ) (fits : l < 2 ^ 64) where
  high_part : (d : ℕ) → (h * 2 ^ 64 + l) / (2 ^ 64 * d) ≡ h / d
  high_part d =
      let e : (h * 2 ^ 64 + l) / 2 ^ 64 ≡ h = omega arith in
      sym (div-div-eq-div-mul (h * 2 ^ 64 + l) (2 ^ 64) d) ∙ ap (λ n. n / d) e

  high_byte : (d : ℕ) → (h * 2 ^ 64 + l) / (2 ^ 64 * d) % 256 ≡ h / d % 256
  high_byte d = ap (λ n. n % 256) (high_part d)

  last_high : (h * 2 ^ 64 + l) / 2 ^ 64 % 256 ≡ h % 256
  last_high = omega arith

  low_1 : (h * 2 ^ 64 + l) / 2 ^ 56 % 256 ≡ l / 2 ^ 56 % 256
  low_1 = omega arith

  low_2 : (h * 2 ^ 64 + l) / 2 ^ 48 % 256 ≡ l / 2 ^ 48 % 256
  low_2 = omega arith

  low_3 : (h * 2 ^ 64 + l) / 2 ^ 40 % 256 ≡ l / 2 ^ 40 % 256
  low_3 = omega arith

  low_4 : (h * 2 ^ 64 + l) / 2 ^ 32 % 256 ≡ l / 2 ^ 32 % 256
  low_4 = omega arith

  low_5 : (h * 2 ^ 64 + l) / 2 ^ 24 % 256 ≡ l / 2 ^ 24 % 256
  low_5 = omega arith

  low_6 : (h * 2 ^ 64 + l) / 2 ^ 16 % 256 ≡ l / 2 ^ 16 % 256
  low_6 = omega arith

  low_7 : (h * 2 ^ 64 + l) / 2 ^ 8 % 256 ≡ l / 2 ^ 8 % 256
  low_7 = omega arith

  low_8 : (h * 2 ^ 64 + l) / 1 % 256 ≡ l % 256
  low_8 = omega arith

  pub halves : big_endian 16 (h * 2 ^ 64 + l) ≡ half h ++ half l
  halves =
      (λ i.
      high_byte (2 ^ 56) i ∷ high_byte (2 ^ 48) i ∷ high_byte (2 ^ 40) i ∷ high_byte (2 ^ 32) i
      ∷ high_byte (2 ^ 24) i ∷ high_byte (2 ^ 16) i ∷ high_byte (2 ^ 8) i ∷ last_high i
      ∷ low_1 i ∷ low_2 i ∷ low_3 i ∷ low_4 i ∷ low_5 i ∷ low_6 i ∷ low_7 i ∷ low_8 i ∷ [])

-- the bytes of the word are its fields
pub word_bytes :
    (c s n w : ℕ) → c < 256 → s < 256 → n < 256 → w < 256 → big_endian 4 (c * 2 ^ 24 + s * 2 ^ 16 + n * 2 ^ 8 + w) ≡ c ∷ s ∷ n ∷ w ∷ []
word_bytes c s n w hc hs hn hw =
    let x = c * 2 ^ 24 + s * 2 ^ 16 + n * 2 ^ 8 + w in
    let b1 : x / 2 ^ 24 % 256 ≡ c = omega arith in
    let b2 : x / 2 ^ 16 % 256 ≡ s = omega arith in
    let b3 : x / 2 ^ 8 % 256 ≡ n = omega arith in
    let b4 : x / 1 % 256 ≡ w = omega arith in
    (λ i. b1 i ∷ b2 i ∷ b3 i ∷ b4 i ∷ [])

pub rows_bytes_more :
    (rows : List code.Row) (i : ℕ) → i < length rows
    → rows_bytes (rows_mean (take (i + 1) rows)) ≡ rows_bytes (rows_mean (take i rows)) ++ row_bytes (row_means (get_or rows i blank))
rows_bytes_more rows i there =
    ap rows_bytes (map_more row_means rows i blank there)
    ∙ sym (flat_map_more row_bytes [] (rows_mean (take i rows)) (row_means (get_or rows i blank)))

long : (rs : List Row) → length (rows_bytes rs) ≡ 20 * length rs
long [] = refl
long (r ∷ rs) = length-append (row_bytes r) (rows_bytes rs) ∙ omega (arith, long rs)

pub front_long : (rows : List code.Row) (i : ℕ) → i ≤ length rows → length (rows_bytes (rows_mean (take i rows))) ≡ 20 * i
front_long rows i few =
    long (rows_mean (take i rows)) ∙ ap (λ n. 20 * n) (length-map (take i rows) row_means ∙ length-take-le i rows few)

-- a write right behind what was written
pub written_more :
    (n k : ℕ) (xs ys out : List ℕ) → length xs ≡ n → length ys ≡ k → put_mid n k (written xs out) ys ≡ written (xs ++ ys) out
written_more n k xs ys out lx ly =
    let rest = drop (length xs) out in
    let front : take n (xs ++ rest) ≡ xs = take_at xs rest n lx in
    let back : drop n (xs ++ rest) ≡ rest = drop_at xs rest n lx in
    let end : drop k rest ≡ drop (length (xs ++ ys)) out =
    drop-drop k (length xs) out ∙ ap (λ m. drop m out) (let e : length xs + k ≡ length (xs ++ ys) = omega (arith, length-append xs ys) in e)
    in
    (λ i. front i ++ (ys ++ drop k (back i))) ∙ ap (λ zs. xs ++ (ys ++ zs)) end
    ∙ sym (append_assoc xs ys (drop (length (xs ++ ys)) out))
