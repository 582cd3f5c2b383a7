-- What a TLV is judged to be, and one turn of the walk over the TLVs. Assumes nothing.
use Rattle.std.proofs.Common.{◌≡◌, ℕ, zero, suc, ◌+◌, ◌-◌, ◌<◌, ◌≤◌, Bool, true, false, cond, not, ◌&&◌, eqb, ltb, List, [], ◌∷◌, length, take, drop, Ok, Err, Option, Result, sym, refl, ap, ◌∙◌, ⊎_elim, arith, length-drop}
use Rattle.std.proofs.lemmas.List.{take_rest, drop-drop, length-take-le}
use Rattle.std.proofs.lemmas.Bool.{cases_lt, le-ltb, lt-ltb, ne_eqb, eq-eqb}
use Rattle.hello_read.specs.declared.fault.TlvFault.{TlvFault}
use Rattle.hello_read.specs.Layout.{organization}
use Rattle.hello_read.specs.declared.fault.TlvFault.TheVariants.{Order, Length}
use Rattle.hello_read.specs.Tlvs.{Next, End, Filled, kind, size, starts, cut, end, specific, tlv_at, noted, walk}

-- What a TLV of type k with contents c is judged to be, the n-th, whose head stands at p.
abbrev pub judged : ℕ → ℕ → ℕ → List ℕ → Result Next TlvFault
judged p n k c =
    cond (ltb n 3 && not (eqb k (n + 1))) (Err (Order p))
    (cond (eqb k 0) (end (length c) p)
    (cond (eqb k 127) (specific c p)
    (Ok (Filled (length c) false))))

abbrev pub hello : ℕ → List ℕ → Bool
hello k c = eqb k 127 && starts organization c

module _ (p n k : ℕ) (c : List ℕ) where
  pub judged_first : n < 3 → k ≡ n + 1 → judged p n k c ≡ Ok (Filled (length c) false)
  judged_first early is =
      let due : eqb k (n + 1) ≡ true = eq-eqb k (n + 1) is in
      rw (lt-ltb n 3 early, due, ne_eqb k 0 (λ e. omega arith), ne_eqb k 127 (λ e. omega arith))

  pub judged_wrong : n < 3 → eqb k (n + 1) ≡ false → judged p n k c ≡ Err (Order p)
  judged_wrong early is = rw (lt-ltb n 3 early, is)

  pub judged_end : 3 ≤ n → eqb k 0 ≡ true → judged p n k c ≡ end (length c) p
  judged_end late is = rw (le-ltb n 3 late, is)

  -- past the first three, and no end
  pub judged_late : 3 ≤ n → eqb k 0 ≡ false
      → judged p n k c ≡ cond (hello k c && not (eqb (length c) 86)) (Err (Length p)) (Ok (Filled (length c) (hello k c)))
  judged_late late is =
      rw (le-ltb n 3 late, is)
      (elim (eqb k 127) as (λ b.
      cond b (specific c p) (Ok (Filled (length c) false))
      ≡ cond (b && starts organization c && not (eqb (length c) 86)) (Err (Length p)) (Ok (Filled (length c) (b && starts organization c))))
      [ true ↦ refl | false ↦ refl ])

-- no fault is an answer
pub unlike : {X Y Z : Type 0} {x : X} {y : Y} → ◌≡◌ {A = Result X Y} (Err y) (Ok x) → Z
unlike q = let z : ◌≡◌ {A = ℕ} 0 1 = cc in absurd (let no : ⊥ = omega arith in no)

-- The TLV that is cut off is the one that the walk sees.
pub cut_whole : (p n k : ℕ) (c bs : List ℕ) → cut p bs ≡ Ok (k, c) → (tlv_at p n bs ≡ judged p n k c) × (2 + length c ≤ length bs)
cut_whole p n k c [] so = unlike so
cut_whole p n k c (a ∷ []) so = unlike so
cut_whole p n k c (a ∷ b ∷ bs) so =
    ⊎_elim
    (λ past. let less = lt-ltb (length bs) (size a b) past in unlike (rw less at so))
    (λ fits.
    let enough = le-ltb (length bs) (size a b) fits in
    let is = rw enough at so in
    let same : ◌≡◌ {A = ℕ × List ℕ} (kind a, take (size a b) bs) (k, c) = cc in
    let type : kind a ≡ k = ap (λ x. x.0) same in
    let contents : take (size a b) bs ≡ c = ap (λ x. x.1) same in
    let long : length (take (size a b) bs) ≡ size a b = length-take-le (size a b) bs fits in
    let n_is : size a b ≡ length c = sym long ∙ ap length contents in (
      rw enough (λ i. cond (ltb n 3 && not (eqb (type i) (n + 1))) (Err (Order p))
          (cond (eqb (type i) 0) (end (n_is i) p) (cond (eqb (type i) 127) (specific (contents i) p) (Ok (Filled (n_is i) false))))),
      omega (arith, n_is, fits),
    ))
    (cases_lt (length bs) (size a b))

pub skipped : (k p n : ℕ) (f : Option ℕ) (bs : List ℕ) → walk k p n f bs ≡ walk 0 p n f (drop k bs)
skipped zero p n f bs = refl
skipped (suc k) p n f [] = refl
skipped (suc k) p n f (b ∷ bs) = skipped k p n f bs

-- How the walk goes on, by what is found and by the TLV at hand; bs is what lies behind the first byte of its head.
abbrev Goes : ℕ → ℕ → List ℕ → Result (Option ℕ) TlvFault → Result (Option ℕ) TlvFault
Goes p n bs (Ok f) = walk 0 p n f bs
Goes p n bs (Err e) = Err e

abbrev pub Turn : ℕ → ℕ → Option ℕ → List ℕ → Result Next TlvFault → Result (Option ℕ) TlvFault
Turn p n f bs (Err e) = Err e
Turn p n f bs (Ok End) = Ok f
Turn p n f bs (Ok (Filled size hello)) = Goes (p + (2 + size)) (n + 1) (drop (size + 1) bs) (noted f hello p)

module _ (p n : ℕ) (f : Option ℕ) (bs : List ℕ) where
  inner : (size : ℕ) (r : Result (Option ℕ) TlvFault) → (elim r [ Ok g ↦ walk (size + 1) (p + (2 + size)) (n + 1) g bs | Err e ↦ Err e ]) ≡ Goes (p + (2 + size)) (n + 1) (drop (size + 1) bs) r
  inner size (Ok g) = skipped (size + 1) (p + (2 + size)) (n + 1) g bs
  inner size (Err e) = refl

  outer : (r : Result Next TlvFault) → (elim r [ Ok t ↦ elim t [ End ↦ Ok f | Filled size hello ↦ elim (noted f hello p) [ Ok g ↦ walk (size + 1) (p + (2 + size)) (n + 1) g bs | Err e ↦ Err e ] ] | Err e ↦ Err e ]) ≡ Turn p n f bs r
  outer (Ok End) = refl
  outer (Ok (Filled size hello)) = inner size (noted f hello p)
  outer (Err e) = refl

pub turned : (p n : ℕ) (f : Option ℕ) (bs : List ℕ) → walk 0 p n f bs ≡ Turn p n f (drop 1 bs) (tlv_at p n bs)
turned p n f [] = refl
turned p n f (b ∷ bs) = outer p n f bs (tlv_at p n (b ∷ bs))

-- The rest of the frame as the code cuts it, `&frame[p..]`.
module _ (p n : ℕ) (f : Option ℕ) (frame : List ℕ) {all : Result (Option ℕ) TlvFault} (so : walk 0 p n f (drop p frame) ≡ all) where
  abbrev rest : List ℕ
  rest = take (length frame - p) (drop p frame)

  abbrev behind : List ℕ
  behind = drop 1 (drop p frame)

  now_turned : {r : Result Next TlvFault} → tlv_at p n (drop p frame) ≡ r → Turn p n f behind r ≡ all
  now_turned is = ap (Turn p n f behind) (sym is) ∙ sym (turned p n f (drop p frame)) ∙ so

  more : (size : ℕ) (h : Bool) (g : Option ℕ) → tlv_at p n (drop p frame) ≡ Ok (Filled size h) → noted f h p ≡ Ok g
      → walk 0 (p + (2 + size)) (n + 1) g (drop (p + (2 + size)) frame) ≡ all
  more size h g is k =
      let far : drop (size + 1) behind ≡ drop (p + 1 + (size + 1)) frame = ap (drop (size + 1)) (drop-drop 1 p frame) ∙ drop-drop (size + 1) (p + 1) frame in
      let place : p + 1 + (size + 1) ≡ p + (2 + size) = omega arith in
      let step : walk 0 (p + (2 + size)) (n + 1) g (drop (size + 1) behind) ≡ all =
      sym (ap (Goes (p + (2 + size)) (n + 1) (drop (size + 1) behind)) k) ∙ now_turned is
      in
      rw (far, place) at step

  module _ (k : ℕ) (c : List ℕ) (is : cut p rest ≡ Ok (k, c)) where
    whole : (tlv_at p n (drop p frame) ≡ judged p n k c) × (2 + length c ≤ length (drop p frame))
    whole = cut_whole p n k c (drop p frame) (ap (cut p) (sym (take_rest frame p)) ∙ is)

    pub within : p + (2 + length c) ≤ length frame
    within = omega (arith, whole.1, length-drop p frame)

    pub at_order : n < 3 → eqb k (n + 1) ≡ false → all ≡ Err (Order p)
    at_order early wrong = sym (now_turned (whole.0 ∙ judged_wrong p n k c early wrong))

    pub at_first : n < 3 → k ≡ n + 1 → walk 0 (p + (2 + length c)) (n + 1) f (drop (p + (2 + length c)) frame) ≡ all
    at_first early right = more (length c) false f (whole.0 ∙ judged_first p n k c early right) refl

    pub at_late : (h : Bool) (g : Option ℕ) → 3 ≤ n → eqb k 0 ≡ false → hello k c ≡ h → (h && not (eqb (length c) 86)) ≡ false → noted f h p ≡ Ok g
        → walk 0 (p + (2 + length c)) (n + 1) g (drop (p + (2 + length c)) frame) ≡ all
    at_late h g late type is fits seen =
        let judged_so : tlv_at p n (drop p frame) ≡ Ok (Filled (length c) h) =
        whole.0
        ∙ judged_late p n k c late type
        ∙ (λ i. cond (is i && not (eqb (length c) 86)) (Err (Length p)) (Ok (Filled (length c) (is i))))
        ∙ ap (λ b. cond b (Err (Length p)) (Ok (Filled (length c) h))) fits
        in
        more (length c) h g judged_so seen
