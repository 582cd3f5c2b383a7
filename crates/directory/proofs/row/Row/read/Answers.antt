use Rattle.std.proofs.Common.{◌≡◌, true, false, ◌≤◌, ℕ, ◌+◌, ◌*◌, ◌/◌, ◌%◌, ◌^◌, ◌<◌, List, [], ◌∷◌, ◌++◌, length, get_or, take, drop, Some, Ok, Err, Result, IfOk, IfSome, sym, refl, ap, subst, ◌∙◌, arith}
use Rattle.std.specs.Result.{result_ok}
use Rattle.std.proofs.lemmas.List.{get_or-drop, take-append-drop, append_assoc}
use Rattle.train.specs.Bytes.{big_endian, direction}
use Rattle.directory.specs.declared.row.Way.{Way}
use Rattle.directory.specs.declared.read.UnknownDirection.{UnknownDirection}
use Rattle.directory.specs.Meaning.{way_means}
use Rattle.directory.proofs.Octets.{half, halves, word_bytes}
use Rattle.directory.proofs.row.Row.read.Goals as goal

-- the bytes of 64 bits
eight : (x : ℕ) → big_endian 8 x ≡ half x
eight x =
    let e : x / 1 % 256 ≡ x % 256 = omega arith in
    ap
    (λ n.
    x / 2 ^ 56 % 256 ∷ x / 2 ^ 48 % 256 ∷ x / 2 ^ 40 % 256 ∷ x / 2 ^ 32 % 256 ∷ x / 2 ^ 24 % 256 ∷ x / 2 ^ 16 % 256 ∷ x / 2 ^ 8 % 256 ∷ n ∷ [])
    e

four : (xs : List ℕ) → length xs ≡ 4 → get_or xs 0 0 ∷ get_or xs 1 0 ∷ get_or xs 2 0 ∷ get_or xs 3 0 ∷ [] ≡ xs
four [] e = grind arith
four (a ∷ []) e = grind arith
four (a ∷ b ∷ []) e = grind arith
four (a ∷ b ∷ c ∷ []) e = grind arith
four (a ∷ b ∷ c ∷ d ∷ []) e = refl
four (a ∷ b ∷ c ∷ d ∷ f ∷ xs) e = grind arith

-- a byte behind two parts of 8
behind : (bytes rest w : List ℕ) → rest ≡ drop 8 bytes → w ≡ drop 8 rest → (i : ℕ) → get_or w i 0 ≡ get_or bytes (8 + (8 + i)) 0
behind bytes rest w e f i =
    ap (λ xs. get_or xs i 0) f ∙ get_or-drop 8 rest i 0 ∙ ap (λ xs. get_or xs (8 + i) 0) e ∙ get_or-drop 8 bytes (8 + i) 0

-- the way that a direction says
read_way : (n : ℕ) (way : Way) (r : Result Way UnknownDirection) → IfOk r (λ way. direction (way_means way) ≡ n) → Some way ≡ result_ok r → direction (way_means way) ≡ n
read_way n way (Ok w) m e = subst (λ o. IfSome o (λ way. direction (way_means way) ≡ n)) (sym e) m
read_way n way (Err f) m e = subst (λ o. IfSome o (λ way. direction (way_means way) ≡ n)) (sym e) cc

pub returns-clause-row : goal.returns-clause-row
returns-clause-row c =
    let h = c.half.result in
    let l = c.half-2.result in
    let bytes = c.args.bytes.now in
    let rest = c.in_ok-high.rest.now in
    let w = c.in_ok-low.word.now in
    let first = sym (eight h) ∙ c.half.ensures ∙ c.in_ok-high.ensures.cases.0 in
    let second = sym (eight l) ∙ c.half-2.ensures ∙ c.in_ok-low.ensures.cases.0 in
    let middle = c.in_ok-high.ensures.cases.1 in
    let last = c.in_ok-low.ensures.cases.1 in
    let small : (i : ℕ) → get_or w i 0 < 256 =
    λ i. let e = behind bytes rest w middle last i in let fits = c.type_inv.bytes (8 + (8 + i)) in omega arith
    in
    let way = read_way (get_or w 3 0) c.in_ok-way.way c.try_from.result c.try_from.ensures.0 c.in_ok-way.ensures.value in
    let word =
    ap (λ d. big_endian 4 (get_or w 0 0 * 2 ^ 24 + get_or w 1 0 * 2 ^ 16 + get_or w 2 0 * 2 ^ 8 + d)) way
    ∙ word_bytes (get_or w 0 0) (get_or w 1 0) (get_or w 2 0) (get_or w 3 0) (small 0) (small 1) (small 2) (small 3)
    ∙ four w (omega arith)
    in
    (λ i. halves h l (omega arith) i ++ word i) ∙ (λ i. (first i ++ second i) ++ last i)
    ∙ append_assoc (take 8 bytes) (take 8 rest) (drop 8 rest)
    ∙ ap (λ xs. take 8 bytes ++ xs) (take-append-drop 8 rest ∙ middle)
    ∙ take-append-drop 8 bytes

pub returns-clause-some : goal.returns-clause-some
returns-clause-some c =
    let long = c.in_ok-high.ensures.cases.2 in
    let longer = c.in_ok-low.ensures.cases.2 in
    let four = c.in-len4 in
    let last = behind c.args.bytes.now c.in_ok-high.rest.now c.in_ok-low.word.now c.in_ok-high.ensures.cases.1 c.in_ok-low.ensures.cases.1 3 in
    let bounds = c.try_from.ensures.1.0 (sym c.in_ok-way.ensures.variant) in
    let low = bounds.0 in
    let high = bounds.1 in
    (λ _. (omega arith, omega arith, omega arith), λ _. refl)

pub returns-in_err-way-clause-some : goal.returns-in_err-way-clause-some
returns-in_err-way-clause-some c =
    let last = behind c.args.bytes.now c.in_ok-high.rest.now c.in_ok-low.word.now c.in_ok-high.ensures.cases.1 c.in_ok-low.ensures.cases.1 3 in
    let wrong : 1 ≤ get_or c.args.bytes.now 19 0 → get_or c.args.bytes.now 19 0 ≤ 2 → false ≡ true =
    λ l h. c.in_err-way.ensures.variant ∙ c.try_from.ensures.1.1 (omega arith, omega arith)
    in
    rw c.from_residual-in_err-way.ensures (λ h. (grind arith, grind arith, grind arith), λ h. wrong h.1 h.2)
