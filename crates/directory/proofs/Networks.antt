-- The networks of a mask, one by one. Assumes nothing.
use Rattle.std.proofs.Common.{◌≡◌, ℕ, zero, suc, ◌+◌, ◌-◌, ◌*◌, ◌/◌, ◌%◌, ◌^◌, ◌<◌, ◌≤◌, true, false, cond, List, [], ◌∷◌, filter, sym, refl, ap, ◌∙◌, subst, ⊎_elim, arith}
use native.Mathlib.Nat.{div-div-eq-div-mul}
use Rattle.std.proofs.lemmas.Bool.{cond-true, cond-false, cases_Bool, cases_eq, eqb-false}
use Rattle.report.specs.Masks.{serves}
use Rattle.train.specs.Truth.{In, here, there}
use Rattle.train.specs.Rules.{networks}

abbrev upto : ℕ → ℕ → List ℕ
upto zero n = []
upto (suc left) n = n ∷ upto left (n + 1)

-- those from n on
abbrev pub served : ℕ → ℕ → List ℕ
served mask n = filter (serves mask) (upto (9 - n) n)

pub served_first : (mask : ℕ) → served mask 1 ≡ networks mask
served_first mask = refl

pub served_on : (mask n : ℕ) → n ≤ 8 → serves mask n ≡ true → served mask n ≡ n ∷ served mask (n + 1)
served_on mask n few e =
    let more : 9 - n ≡ suc (9 - (n + 1)) = omega arith in
    ap (λ k. filter (serves mask) (upto k n)) more ∙ cond-true (serves mask n) (n ∷ served mask (n + 1)) (served mask (n + 1)) e

pub served_off : (mask n : ℕ) → n ≤ 8 → serves mask n ≡ false → served mask n ≡ served mask (n + 1)
served_off mask n few e =
    let more : 9 - n ≡ suc (9 - (n + 1)) = omega arith in
    ap (λ k. filter (serves mask) (upto k n)) more ∙ cond-false (serves mask n) (n ∷ served mask (n + 1)) (served mask (n + 1)) e

pub served_all : (mask n : ℕ) → 9 ≤ n → served mask n ≡ []
served_all mask n past =
    let none : 9 - n ≡ 0 = omega arith in
    ap (λ k. filter (serves mask) (upto k n)) none

even : (m d e : ℕ) → 0 < d → e ≡ d * 2 → m / d % 2 ≡ 0 → m / d ≡ 2 * (m / e)
even m d e some twice off =
    let q : m / e ≡ m / d / 2 = ap (λ k. m / k) twice ∙ sym (div-div-eq-div-mul m d 2) in
    omega arith

top_bit : (m : ℕ) → m < 256 → m / 128 % 2 ≡ 0 → m / 128 ≡ 0
top_bit m few off = omega arith

-- a mask that is not 0 serves a network
pub serves_some :
    (mask : ℕ) (P : Type 0) → mask < 256 → (mask ≡ 0 → ⊥) → ((j : ℕ) → 1 ≤ j → j < 9 → serves mask j ≡ true → P) → P
serves_some mask P few some at =
    bit 1 (omega arith) (omega arith) (λ b1. bit 2 (omega arith) (omega arith) (λ b2. bit 3 (omega arith) (omega arith) (λ b3.
    bit 4 (omega arith) (omega arith) (λ b4. bit 5 (omega arith) (omega arith) (λ b5. bit 6 (omega arith) (omega arith) (λ b6.
    bit 7 (omega arith) (omega arith) (λ b7. bit 8 (omega arith) (omega arith) (λ b8.
    absurd (some (no_bits b1 b2 b3 b4 b5 b6 b7 b8))))))))))
  where
    no_bits :
        mask / 1 % 2 ≡ 0 → mask / 2 % 2 ≡ 0 → mask / 4 % 2 ≡ 0 → mask / 8 % 2 ≡ 0 → mask / 16 % 2 ≡ 0 → mask / 32 % 2 ≡ 0
        → mask / 64 % 2 ≡ 0 → mask / 128 % 2 ≡ 0 → mask ≡ 0
    no_bits b1 b2 b3 b4 b5 b6 b7 b8 =
        let e1 : mask ≡ 2 * (mask / 2) = omega arith in
        let z = top_bit mask few b8 in
        e1 ∙ ap (λ n. 2 * n) (even mask 2 4 (omega arith) refl b2 ∙ ap (λ n. 2 * n) (even mask 4 8 (omega arith) refl b3
        ∙ ap (λ n. 2 * n) (even mask 8 16 (omega arith) refl b4 ∙ ap (λ n. 2 * n) (even mask 16 32 (omega arith) refl b5
        ∙ ap (λ n. 2 * n) (even mask 32 64 (omega arith) refl b6 ∙ ap (λ n. 2 * n) (even mask 64 128 (omega arith) refl b7 ∙ ap (λ n. 2 * n) z))))))

    bit : (j : ℕ) → 1 ≤ j → j < 9 → (mask / 2 ^ (j - 1) % 2 ≡ 0 → P) → P
    bit j one few off =
        ⊎_elim (λ e. at j one few e)
        (λ e. let no_bit = eqb-false (mask / 2 ^ (j - 1) % 2) 1 e in
        let z : mask / 2 ^ (j - 1) % 2 ≡ 0 = omega (arith, no_bit) in off z)
        (cases_Bool (serves mask j))

in_upto : (mask left n j : ℕ) → n ≤ j → j < n + left → serves mask j ≡ true → In j (filter (serves mask) (upto left n))
in_upto mask zero n j low few on = absurd (let z : ⊥ = omega arith in z)
in_upto mask (suc left) n j low few on =
    let rest = filter (serves mask) (upto left (n + 1)) in
    ⊎_elim
    (λ e. subst (λ i. In j (cond (serves mask i) (i ∷ rest) rest)) e (subst (λ b. In j (cond b (j ∷ rest) rest)) (sym on) here))
    (λ ne.
    let h = in_upto mask left (n + 1) j (omega arith) (omega arith) on in
    elim (serves mask n) as (λ b. In j (cond b (n ∷ rest) rest)) [ true ↦ there h | false ↦ h ])
    (cases_eq j n)

pub in_networks : (mask : ℕ) → mask < 256 → (mask ≡ 0 → ⊥) → (c : ℕ) × In c (networks mask)
in_networks mask few some =
    serves_some mask ((c : ℕ) × In c (networks mask)) few some (λ j one most on. (j, in_upto mask 8 1 j one (omega arith) on))
