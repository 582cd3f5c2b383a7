-- Parts of a row of bytes, and the numbers that they write. Assumes nothing.
use Rattle.std.proofs.Common.{◌≡◌, ℕ, zero, suc, ◌+◌, ◌-◌, ◌^◌, ◌<◌, ◌≤◌, List, [], ◌∷◌, ◌++◌, length, get_or, take, drop, replicate, Fits, w8, w64, refl, ap, ◌∙◌, append-nil, arith, length-append, length-drop}
use borrow.Rule.Slice.PartMut.{put_mid}
use Rattle.std.specs.Int.{from_be_bytes}
use Rattle.std.specs.Int.Digits.{AllBelowBase, number_from_digits_after}
use Rattle.std.proofs.lemmas.Int.Digits.{number_lt, number_more, number_after_append}
use Rattle.std.proofs.lemmas.List.{drop-drop, drop-take, drop_all, take-take, take_all, length-take-le}
use Rattle.hello_read.specs.Layout.{bytes_at, number}

pub part_of_part : (bs : List ℕ) (at bytes from count : ℕ) → from + count ≤ bytes → bytes_at from count (bytes_at at bytes bs) ≡ bytes_at (at + from) count bs
part_of_part bs at bytes from count fits =
    let all : bytes ≡ from + (bytes - from) = omega arith in
    ap (λ n. take count (drop from (take n (drop at bs)))) all
    ∙ ap (take count) (drop-take from (bytes - from) (drop at bs))
    ∙ take-take count (bytes - from) (drop from (drop at bs)) (omega arith)
    ∙ ap (take count) (drop-drop from at bs)

below : (bs : List ℕ) → ((i : ℕ) → Fits w8 (get_or bs i 0)) → AllBelowBase 256 bs
below [] fits = tt
below (b ∷ bs) fits = (omega (arith, fits 0), below bs (λ i. fits (suc i)))

below_take : (n : ℕ) (bs : List ℕ) → AllBelowBase 256 bs → AllBelowBase 256 (take n bs)
below_take zero bs all = tt
below_take (suc n) [] all = tt
below_take (suc n) (b ∷ bs) all = (all.0, below_take n bs all.1)

below_drop : (n : ℕ) (bs : List ℕ) → AllBelowBase 256 bs → AllBelowBase 256 (drop n bs)
below_drop zero bs all = all
below_drop (suc n) [] all = tt
below_drop (suc n) (b ∷ bs) all = below_drop n bs all.1

pub number_fits : (at n : ℕ) (bs part : List ℕ) → ((i : ℕ) → Fits w8 (get_or bs i 0)) → part ≡ bytes_at at n bs → length part ≡ n → number part < 256 ^ n
number_fits at n bs part fits is long =
    let all : number part < 256 ^ length part = rw is (number_lt 256 (bytes_at at n bs) (below_take n (drop at bs) (below_drop at bs (below bs fits)))) in
    rw long at all

be_number : (bs : List ℕ) → length bs ≡ 8 → from_be_bytes w64 bs ≡ number bs
be_number bs long =
    let all : number (take 8 bs) ≡ number bs = ap number (take_all 8 bs (omega arith)) in
    omega (arith, all, number_more 256 bs 0 (omega arith), number_more 256 bs 1 (omega arith), number_more 256 bs 2 (omega arith), number_more 256 bs 3 (omega arith), number_more 256 bs 4 (omega arith), number_more 256 bs 5 (omega arith), number_more 256 bs 6 (omega arith), number_more 256 bs 7 (omega arith))

number_zeros : (m n : ℕ) → number (take n (replicate m 0)) ≡ 0
number_zeros zero zero = refl
number_zeros zero (suc n) = refl
number_zeros (suc m) zero = refl
number_zeros (suc m) (suc n) = number_zeros m n

-- the bytes behind zeros, `all[n..].copy_from_slice(bs)`
pub padded : (n : ℕ) (part bs : List ℕ) → n + length bs ≡ 8 → part ≡ bs → from_be_bytes w64 (put_mid n (8 - n) (replicate 8 0) part) ≡ number bs
padded n part bs whole is =
    let zeros : List ℕ = take n (replicate 8 0) in
    let none : drop (8 - n) (drop n (replicate 8 0)) ≡ [] = drop_all (8 - n) (drop n (replicate 8 0)) (omega (arith, length-drop {A = ℕ} n (replicate 8 0))) in
    let row : put_mid n (8 - n) (replicate 8 0) part ≡ zeros ++ bs = (λ i. zeros ++ (is i ++ none i)) ∙ ap (λ l. zeros ++ l) (append-nil bs) in
    let long : length (zeros ++ bs) ≡ 8 = omega (arith, length-append zeros bs, length-take-le {A = ℕ} n (replicate 8 0) (omega arith)) in
    ap (from_be_bytes w64) row
    ∙ be_number (zeros ++ bs) long
    ∙ number_after_append 256 0 zeros bs
    ∙ ap (λ k. number_from_digits_after 256 k bs) (number_zeros 8 n)
