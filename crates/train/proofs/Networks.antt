-- The networks of masks, alone and together. Assumes nothing.
use Rattle.std.proofs.Common.{◌≡◌, ℕ, zero, suc, ◌+◌, ◌-◌, ◌/◌, ◌%◌, ◌^◌, ◌<◌, ◌≤◌, Bool, true, false, not, ◌&&◌, ◌||◌, eqb, leb, List, [], ◌∷◌, map, length, sym, refl, ap, ◌∙◌, subst, ap₂, ⊎_elim, arith}
use mathlib.Core.Bool.{false≢true}
use native.Mathlib.Nat.{zero-div}
use lib.Bits.{bit_or}
use Rattle.std.specs.List.{AllByRecursion}
use Rattle.std.proofs.lemmas.Nat.{or_shr, or_mod, or_lt, mod_below}
use Rattle.std.proofs.lemmas.Bool.{eqb-true, leb-true, and_parts, or_left, or_right, or_cases, cases_eq}
use Rattle.report.specs.Masks.{serves, together, unbroken}
use Rattle.train.specs.Truth.{In, here, there}
use Rattle.train.specs.Rules.{networks, Different}
use Rattle.train.specs.Rows.{counted}
use Rattle.train.specs.Numbers.{RunsTo}
use Rattle.train.proofs.Members.{not_in, in_cases, of_kept, in_kept, all_in, different_kept, different_counted, counted_run}

abbrev one_to_eight : List ℕ
one_to_eight = 1 ∷ 2 ∷ 3 ∷ 4 ∷ 5 ∷ 6 ∷ 7 ∷ 8 ∷ []

pub networks_between : (m n : ℕ) → In n (networks m) → (1 ≤ n) × (n ≤ 8)
networks_between m n i = all_in (λ k. (1 ≤ k) × (k ≤ 8)) n one_to_eight (of_kept (serves m) n one_to_eight i).0 (omega arith)

pub networks_different : (m : ℕ) → Different (networks m)
networks_different m = different_kept (serves m) one_to_eight (different_counted 1 one_to_eight)

-- computed for each mask: it serves a network, and has those from 1 to their number where none is missing below another
abbrev in_order : ℕ → List ℕ → Bool
in_order n [] = true
in_order n (x ∷ xs) = eqb x n && in_order (n + 1) xs

test : ℕ → Bool
test m = leb 1 (length (networks m)) && (not (unbroken m) || in_order 1 (networks m))

all_pass : ℕ → Bool
all_pass zero = true
all_pass (suc n) = test (suc n) && all_pass n

passes_at : (n : ℕ) → all_pass n ≡ true → (m : ℕ) → 1 ≤ m → m ≤ n → test m ≡ true
unfolding all_pass
passes_at zero e m h k = absurd (omega arith)
passes_at (suc n) e m h k =
    let p = and_parts (test (suc n)) (all_pass n) e in
    ⊎_elim (λ q. ap test q ∙ p.0) (λ d. passes_at n p.1 m h (omega arith)) (cases_eq m (suc n))

passes : (m : ℕ) → 1 ≤ m → m ≤ 255 → test m ≡ true
unfolding all_pass test unbroken
passes m h k = passes_at 255 refl m h k

some_of : (ns : List ℕ) → 1 ≤ length ns → (n : ℕ) × In n ns
some_of [] h = absurd (omega arith)
some_of (n ∷ ns) h = (n, here)

pub some_network : (m : ℕ) → 1 ≤ m → m ≤ 255 → (n : ℕ) × In n (networks m)
unfolding test
some_network m h k = some_of (networks m) (leb-true 1 _ (and_parts (leb 1 (length (networks m))) _ (passes m h k)).0)

ordered : (n : ℕ) (xs : List ℕ) → in_order n xs ≡ true → map (λ p. p.0) (counted n xs) ≡ xs
ordered n [] e = refl
ordered n (x ∷ xs) e = let p = and_parts (eqb x n) (in_order (n + 1) xs) e in ap₂ ◌∷◌ (sym (eqb-true x n p.0)) (ordered (n + 1) xs p.1)

run_of_some : (m : ℕ) → 1 ≤ m → m ≤ 255 → unbroken m ≡ true → RunsTo (length (networks m)) (networks m)
unfolding test
run_of_some m h k u =
    ⊎_elim (λ e. absurd (false≢true (sym (ap not u) ∙ e)))
    (λ e. subst (RunsTo (length (networks m))) (ordered 1 (networks m) e) (counted_run (networks m)))
    (or_cases (not (unbroken m)) (in_order 1 (networks m)) (and_parts (leb 1 (length (networks m))) _ (passes m h k)).1)

pub networks_run : (m : ℕ) → m ≤ 255 → unbroken m ≡ true → RunsTo (length (networks m)) (networks m)
networks_run m k u =
    ⊎_elim (λ e. subst (λ n. RunsTo (length (networks n)) (networks n)) (sym e) (counted_run {A = ℕ} [])) (λ d. run_of_some m (omega arith) k u) (cases_eq m 0)

-- masks together serve what one of them serves
or_bits : (p q : ℕ) → p < 2 → q < 2 → eqb (bit_or p q) 1 ≡ (eqb p 1 || eqb q 1)
or_bits zero zero hp hq = refl
or_bits zero (suc zero) hp hq = refl
or_bits (suc zero) zero hp hq = refl
or_bits (suc zero) (suc zero) hp hq = refl
or_bits (suc (suc p)) q hp hq = absurd (omega arith)
or_bits zero (suc (suc q)) hp hq = absurd (omega arith)
or_bits (suc zero) (suc (suc q)) hp hq = absurd (omega arith)

pub serves_or : (a b n : ℕ) → serves (bit_or a b) n ≡ (serves a n || serves b n)
serves_or a b n =
    let k = n - 1 in
    ap (λ x. eqb (x % 2) 1) (or_shr a b k) ∙ ap (λ x. eqb x 1) (or_mod (a / 2 ^ k) (b / 2 ^ k) 1)
    ∙ or_bits (a / 2 ^ k % 2) (b / 2 ^ k % 2) (mod_below (a / 2 ^ k) 2 (omega arith)) (mod_below (b / 2 ^ k) 2 (omega arith))

serves_none : (n : ℕ) → serves 0 n ≡ false
serves_none n = ap (λ x. eqb (x % 2) 1) (zero-div (2 ^ (n - 1)))

in_together : (ms : List ℕ) (m n : ℕ) → In m ms → serves m n ≡ true → serves (together ms) n ≡ true
in_together [] m n i e = absurd (not_in m i)
in_together (k ∷ ms) m n i e =
    serves_or k (together ms) n
    ∙ ⊎_elim (λ q. or_left (serves k n) _ (ap (λ x. serves x n) (sym q) ∙ e)) (λ j. or_right (serves k n) _ (in_together ms m n j e)) (in_cases m k ms i)

of_together : (ms : List ℕ) (n : ℕ) → serves (together ms) n ≡ true → (m : ℕ) × In m ms × (serves m n ≡ true)
of_together [] n e = absurd (false≢true (sym (serves_none n) ∙ e))
of_together (m ∷ ms) n e =
    ⊎_elim (λ h. (m, here, h)) (λ h. let r = of_together ms n h in (r.0, there r.1, r.2))
    (or_cases (serves m n) (serves (together ms) n) (sym (serves_or m (together ms) n) ∙ e))

pub networks_in_together : (ms : List ℕ) (m n : ℕ) → In m ms → In n (networks m) → In n (networks (together ms))
networks_in_together ms m n i j =
    let r = of_kept (serves m) n one_to_eight j in in_kept (serves (together ms)) n one_to_eight r.0 (in_together ms m n i r.1)

pub networks_of_together : (ms : List ℕ) (n : ℕ) → In n (networks (together ms)) → (m : ℕ) × In m ms × In n (networks m)
networks_of_together ms n j =
    let r = of_kept (serves (together ms)) n one_to_eight j in
    let s = of_together ms n r.1 in
    (s.0, s.1, in_kept (serves s.0) n one_to_eight r.0 s.2)

-- masks together have 8 bits
pub together_below : (ms : List ℕ) → AllByRecursion (λ m. (1 ≤ m) × (m ≤ 255)) ms → together ms < 2 ^ 8
together_below [] h = omega arith
together_below (m ∷ ms) h = or_lt 8 m (together ms) (omega (arith, h.0.1)) (together_below ms h.1)
