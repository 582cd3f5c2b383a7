-- Words and the values in them. Assumes nothing.
use Rattle.std.proofs.Common.{◌≡◌, ℕ, ◌+◌, ◌*◌, ◌/◌, ◌%◌, ◌^◌, ◌<◌, ◌≤◌, true, ◌&&◌, eqb, ltb, leb, ap, ◌∙◌, arith}
use Rattle.std.proofs.lemmas.Bool.{and_parts, and_from, eqb-true, ltb-true, leb-true, eq-eqb, lt-ltb, le-leb}
use Rattle.report.specs.Layout.{word}
use Rattle.report.specs.Reading.{of, head}

-- a word of a kind is its kind and its load
pub of_facts : (kind bits w : ℕ) → of kind bits w ≡ true → (w / 2 ^ 28 ≡ kind) × (w % 2 ^ 28 < 2 ^ bits)
of_facts kind bits w e =
    let p = and_parts (eqb (w / 2 ^ 28) kind) (ltb (w % 2 ^ 28) (2 ^ bits)) e in
    (eqb-true (w / 2 ^ 28) kind p.0, ltb-true (w % 2 ^ 28) (2 ^ bits) p.1)

pub of_word : (kind bits load : ℕ) → load < 2 ^ bits → load < 2 ^ 28 → of kind bits (word kind load) ≡ true
of_word kind bits load h l =
    let q : word kind load / 2 ^ 28 ≡ kind = omega arith in
    let r : word kind load % 2 ^ 28 ≡ load = omega arith in
    and_from (eqb (word kind load / 2 ^ 28) kind) (ltb (word kind load % 2 ^ 28) (2 ^ bits))
    (eq-eqb (word kind load / 2 ^ 28) kind q) (lt-ltb (word kind load % 2 ^ 28) (2 ^ bits) (rw r h))

-- the head word
pub record Headed (w : ℕ) : Type 0 where
  pub few : w % 16 ≤ 4
  pub first : 1 ≤ w / 16 % 16
  pub within : w / 16 % 16 ≤ w % 16
  pub is : word 1 (16 * (w / 16 % 16) + w % 16) ≡ w

pub headed : (w : ℕ) → head w ≡ true → Headed w
headed w e =
    let a = and_parts (of 1 8 w && leb (w % 16) 4 && leb 1 (w / 16 % 16)) (leb (w / 16 % 16) (w % 16)) e in
    let b = and_parts (of 1 8 w && leb (w % 16) 4) (leb 1 (w / 16 % 16)) a.0 in
    let c = and_parts (of 1 8 w) (leb (w % 16) 4) b.0 in
    let kind = of_facts 1 8 w c.0 in
    let few = leb-true (w % 16) 4 c.1 in
    let first = leb-true 1 (w / 16 % 16) b.1 in
    let within = leb-true (w / 16 % 16) (w % 16) a.1 in
    record { few = few; first = first; within = within; is = omega arith }

pub head_word : (p n : ℕ) → n ≤ 4 → 1 ≤ p → p ≤ n → head (word 1 (16 * p + n)) ≡ true
head_word p n few first within =
    let w = word 1 (16 * p + n) in
    let m : w % 16 ≡ n = omega arith in
    let d : w / 16 ≡ 2 ^ 24 + p = omega arith in
    let q : w / 16 % 16 ≡ p = ap (λ n. n % 16) d ∙ omega arith in
    and_from (of 1 8 w && leb (w % 16) 4 && leb 1 (w / 16 % 16)) (leb (w / 16 % 16) (w % 16))
    (and_from (of 1 8 w && leb (w % 16) 4) (leb 1 (w / 16 % 16))
    (and_from (of 1 8 w) (leb (w % 16) 4) (of_word 1 8 (16 * p + n) (omega arith) (omega arith)) (le-leb (w % 16) 4 (omega arith)))
    (le-leb 1 (w / 16 % 16) (omega arith)))
    (le-leb (w / 16 % 16) (w % 16) (omega arith))

-- a MAC in two words
abbrev pub joined : ℕ → ℕ → ℕ
joined w v = w % 2 ^ 24 * 2 ^ 24 + v % 2 ^ 24

pub record Halves (w v : ℕ) : Type 0 where
  pub high : word 2 (joined w v / 2 ^ 24) ≡ w
  pub low : word 2 (joined w v % 2 ^ 24) ≡ v
  pub fits : joined w v < 2 ^ 48

pub halves : (w v : ℕ) → of 2 24 w ≡ true → of 2 24 v ≡ true → Halves w v
halves w v e f =
    let a = of_facts 2 24 w e in
    let b = of_facts 2 24 v f in
    record { high = omega arith; low = omega arith; fits = omega arith }

pub mac_back : (m : ℕ) → m < 2 ^ 48 → joined (word 2 (m / 2 ^ 24)) (word 2 (m % 2 ^ 24)) ≡ m
mac_back m h = omega arith

-- a UUID in five words
abbrev pub gathered : ℕ → ℕ → ℕ → ℕ → ℕ → ℕ
gathered a b c d e = a % 2 ^ 16 * 2 ^ 112 + b % 2 ^ 28 * 2 ^ 84 + c % 2 ^ 28 * 2 ^ 56 + d % 2 ^ 28 * 2 ^ 28 + e % 2 ^ 28

pub record Fifths (a b c d e : ℕ) : Type 0 where
  pub word1 : word 3 (gathered a b c d e / 2 ^ 112) ≡ a
  pub word2 : word 3 (gathered a b c d e / 2 ^ 84 % 2 ^ 28) ≡ b
  pub word3 : word 3 (gathered a b c d e / 2 ^ 56 % 2 ^ 28) ≡ c
  pub word4 : word 3 (gathered a b c d e / 2 ^ 28 % 2 ^ 28) ≡ d
  pub word5 : word 3 (gathered a b c d e % 2 ^ 28) ≡ e
  pub fits : gathered a b c d e < 2 ^ 128

pub fifths : (a b c d e : ℕ) → of 3 16 a ≡ true → of 3 28 b ≡ true → of 3 28 c ≡ true → of 3 28 d ≡ true → of 3 28 e ≡ true → Fifths a b c d e
fifths a b c d e pa pb pc pd pe =
    let fa = of_facts 3 16 a pa in
    let fb = of_facts 3 28 b pb in
    let fc = of_facts 3 28 c pc in
    let fd = of_facts 3 28 d pd in
    let fe = of_facts 3 28 e pe in
    record { word1 = omega arith; word2 = omega arith; word3 = omega arith; word4 = omega arith; word5 = omega arith; fits = omega arith }

pub uuid_back :
    (u : ℕ) → u < 2 ^ 128
    → gathered (word 3 (u / 2 ^ 112)) (word 3 (u / 2 ^ 84 % 2 ^ 28)) (word 3 (u / 2 ^ 56 % 2 ^ 28)) (word 3 (u / 2 ^ 28 % 2 ^ 28)) (word 3 (u % 2 ^ 28)) ≡ u
uuid_back u h = omega arith
