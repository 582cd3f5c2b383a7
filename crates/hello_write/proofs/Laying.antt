-- Bytes laid into a buffer: through a part of it, and behind one another. Assumes nothing.
use Rattle.std.proofs.Common.{◌≡◌, ℕ, ◌+◌, ◌-◌, ◌≤◌, List, [], ◌++◌, length, take, drop, sym, refl, ap, ◌∙◌, append_assoc, append-nil, zero-add, arith, length-append, length-drop}
use borrow.Rule.Slice.PartMut.{put_mid}
use Rattle.std.proofs.lemmas.List.{take_rest, take_at, drop_at, drop-drop, drop_all, length-take-le}
use Rattle.hello_write.specs.Layout.{big}
use Rattle.hello_write.specs.Writing.{laid}

-- a callee that lays xs at the front of `&mut s[n..]` has laid it at n in s
pub laid_part : (n : ℕ) (s xs part : List ℕ) → n ≤ length s → part ≡ laid 0 xs (take (length s - n) (drop n s)) → put_mid n (length s - n) s part ≡ laid n xs s
laid_part n s xs part h e =
    let rest : part ≡ xs ++ drop (n + length xs) s =
    e ∙ ap (λ l. xs ++ drop (0 + length xs) l) (take_rest s n) ∙ ap (λ k. xs ++ drop k (drop n s)) (zero-add (length xs)) ∙ ap (λ l. xs ++ l) (drop-drop (length xs) n s)
    in
    let none : drop (length s - n) (drop n s) ≡ [] = drop_all (length s - n) (drop n s) (omega (arith, length-drop n s)) in
    ap (λ l. take n s ++ (part ++ l)) none ∙ ap (λ l. take n s ++ l) (append-nil part ∙ rest)

-- xs at a, and ys right behind it
laid_laid : (a n : ℕ) (xs ys bs : List ℕ) → a + length xs ≡ n → a ≤ length bs → laid n ys (laid a xs bs) ≡ laid a (xs ++ ys) bs
laid_laid a n xs ys bs e h =
    let tail : List ℕ = drop (a + length (xs ++ ys)) bs in
    let whole : laid a xs bs ≡ (take a bs ++ xs) ++ drop n bs = sym (append_assoc (take a bs) xs (drop (a + length xs) bs)) ∙ ap (λ k. (take a bs ++ xs) ++ drop k bs) e in
    let long : length (take a bs ++ xs) ≡ n = length-append (take a bs) xs ∙ ap (λ k. k + length xs) (length-take-le a bs h) ∙ e in
    let front : take n (laid a xs bs) ≡ take a bs ++ xs = ap (take n) whole ∙ take_at (take a bs ++ xs) (drop n bs) n long in
    let behind : drop n (laid a xs bs) ≡ drop n bs = ap (drop n) whole ∙ drop_at (take a bs ++ xs) (drop n bs) n long in
    let sum : n + length ys ≡ a + length (xs ++ ys) = omega (arith, length-append xs ys) in
    let back : drop (n + length ys) (laid a xs bs) ≡ tail =
    sym (drop-drop (length ys) n (laid a xs bs)) ∙ ap (drop (length ys)) behind ∙ drop-drop (length ys) n bs ∙ ap (λ k. drop k bs) sum
    in
    (λ i. front i ++ (ys ++ back i)) ∙ append_assoc (take a bs) xs (ys ++ tail) ∙ ap (λ l. take a bs ++ l) (sym (append_assoc xs ys tail))

pub length_laid : (a : ℕ) (xs bs : List ℕ) → a + length xs ≤ length bs → length (laid a xs bs) ≡ length bs
length_laid a xs bs h =
    omega (arith, length-append (take a bs) (xs ++ drop (a + length xs) bs), length-append xs (drop (a + length xs) bs), length-drop (a + length xs) bs, length-take-le a bs (omega arith))

-- A row of writers: s holds xs from a on in bs, and the next lays ys at n, right behind.
pub then : (a n : ℕ) (xs ys bs : List ℕ) {s t : List ℕ} → s ≡ laid a xs bs → a + length xs ≡ n → n ≤ length bs → t ≡ laid n ys s → t ≡ laid a (xs ++ ys) bs
then a n xs ys bs is e h so = so ∙ ap (laid n ys) is ∙ laid_laid a n xs ys bs e (omega arith)

-- a number, known under another name
pub then_number :
    (a n bytes : ℕ) (xs : List ℕ) (v : ℕ) (bs : List ℕ) {w : ℕ} {s t : List ℕ} → w ≡ v → s ≡ laid a xs bs → a + length xs ≡ n → n ≤ length bs
    → t ≡ laid n (big bytes w) s → t ≡ laid a (xs ++ big bytes v) bs
then_number a n bytes xs v bs {s = s} same is e h so = then a n xs (big bytes v) bs is e h (so ∙ ap (λ k. laid n (big bytes k) s) same)

-- the same through `&mut s[n..]`
pub then_part :
    (a n : ℕ) (xs ys bs s part : List ℕ) → s ≡ laid a xs bs → a + length xs ≡ n → n ≤ length bs → part ≡ laid 0 ys (take (length s - n) (drop n s))
    → put_mid n (length s - n) s part ≡ laid a (xs ++ ys) bs
then_part a n xs ys bs s part is e h so =
    let long : length s ≡ length bs = ap length is ∙ length_laid a xs bs (omega arith) in
    then a n xs ys bs is e h (laid_part n s ys part (omega arith) so)

-- the same of bytes and a number, known under another name
pub then_tlv :
    (a n bytes : ℕ) (xs front : List ℕ) (v : ℕ) (bs s part : List ℕ) {w : ℕ} → w ≡ v → s ≡ laid a xs bs → a + length xs ≡ n → n ≤ length bs
    → part ≡ laid 0 (front ++ big bytes w) (take (length s - n) (drop n s)) → put_mid n (length s - n) s part ≡ laid a (xs ++ (front ++ big bytes v)) bs
then_tlv a n bytes xs front v bs s part same is e h so =
    then_part a n xs (front ++ big bytes v) bs s part is e h (so ∙ ap (λ k. laid 0 (front ++ big bytes k) (take (length s - n) (drop n s))) same)

-- what was laid, cut out again
pub laid_cut : (at : ℕ) (xs bs : List ℕ) → at + length xs ≤ length bs → take (length xs) (drop at (laid at xs bs)) ≡ xs
laid_cut at xs bs h =
    ap (take (length xs)) (drop_at (take at bs) (xs ++ drop (at + length xs) bs) at (length-take-le at bs (omega arith)))
    ∙ take_at xs (drop (at + length xs) bs) (length xs) refl
