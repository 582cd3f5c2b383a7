-- The walk over whole TLVs: how it goes on at each, and which TLVs it has passed where it ends well. Assumes nothing.
use Rattle.std.proofs.Common.{◌≡◌, ℕ, zero, suc, ◌+◌, ◌<◌, ◌≤◌, Bool, true, false, cond, not, ◌&&◌, eqb, ◌⊎◌, List, [], ◌∷◌, ◌++◌, length, take, drop, Some, None, Ok, Err, Option, Result, sym, refl, ap, ◌∙◌, inl, inr, ⊎_elim, add-one, arith}
use Rattle.std.proofs.lemmas.List.{append_assoc, take-append-drop, take_at, drop_at, length-append, length-take-le, nil_from_length}
use Rattle.std.proofs.lemmas.Bool.{and_parts, cases_lt, cases_Bool, le-ltb, lt-ltb, ne_eqb, eqb-true, eqb-false}
use Rattle.hello_read.specs.declared.fault.TlvFault.{TlvFault}
use Rattle.hello_read.specs.declared.fault.TlvFault.TheVariants.{Order, Past, FilledEnd, Length, Second, NoEnd}
use Rattle.hello_read.specs.Layout.{organization}
use Rattle.hello_read.specs.Tlvs.{End, Filled, kind, size, starts, tlv_at, noted, walk}
use Rattle.hello_read.specs.Frames.{Tlv, tlv_bytes, tlvs_bytes, Whole, is_hello, Typed, HelloTlv, Other}
use Rattle.hello_read.proofs.Turns.{judged, judged_first, judged_wrong, judged_end, judged_late, unlike, Turn, turned}

-- ---- one whole TLV

module _ (p n : ℕ) (t : Tlv) (rest : List ℕ) (whole : Whole t) where
  whole_at : tlv_at p n (tlv_bytes t ++ rest) ≡ judged p n (kind t.high) t.contents
  whole_at =
      let fits : size t.high t.low ≤ length (t.contents ++ rest) = omega (arith, length-append t.contents rest) in
      let same : take (size t.high t.low) (t.contents ++ rest) ≡ t.contents = take_at t.contents rest _ (sym whole) in
      rw (le-ltb (length (t.contents ++ rest)) (size t.high t.low) fits, same, whole)

  behind : drop (length t.contents + 1) (t.low ∷ (t.contents ++ rest)) ≡ rest
  behind = ap (λ k. drop k (t.low ∷ (t.contents ++ rest))) (add-one (length t.contents)) ∙ drop_at t.contents rest _ refl

  -- the walk goes on behind it
  goes : (f g : Option ℕ) (hello : Bool) → judged p n (kind t.high) t.contents ≡ Ok (Filled (length t.contents) hello) → noted f hello p ≡ Ok g
      → walk 0 p n f (tlv_bytes t ++ rest) ≡ walk 0 (p + (2 + length t.contents)) (n + 1) g rest
  goes f g hello is found =
      turned p n f (tlv_bytes t ++ rest)
      ∙ ap (Turn p n f (t.low ∷ (t.contents ++ rest))) (whole_at ∙ is)
      ∙ (λ i. elim (found i) [ Ok h ↦ walk 0 (p + (2 + length t.contents)) (n + 1) h (behind i) | Err e ↦ Err e ])

hello_no_end : (t : Tlv) → is_hello t ≡ true → eqb (kind t.high) 0 ≡ false
hello_no_end t is =
    let type = eqb-true (kind t.high) 127 (and_parts (eqb (kind t.high) 127) (starts organization t.contents) is).0 in
    ne_eqb (kind t.high) 0 (λ e. omega arith)

-- ---- rows of TLVs

-- The n-th TLV, at p, is right: with f found before it, g is found behind it.
abbrev Right : ℕ → ℕ → Option ℕ → Option ℕ → Tlv → Type 0
Right p n f g t =
    ((n < 3) × Typed (n + 1) t × (g ≡ f)) ⊎ (((3 ≤ n) × Other t × (g ≡ f)) ⊎ ((3 ≤ n) × HelloTlv t × (f ≡ None) × (g ≡ Some p)))

-- The TLVs from the n-th on, which stands at p, are right up to an end.
abbrev pub Run : ℕ → ℕ → Option ℕ → Option ℕ → List Tlv → Type 0
Run p n f g [] = (3 ≤ n) × (f ≡ g)
Run p n f g (t ∷ ts) = (h : Option ℕ) × Right p n f h t × Run (p + (2 + length t.contents)) (n + 1) h g ts

module _ (p n : ℕ) (f : Option ℕ) (t : Tlv) (rest : List ℕ) where
  right_first : (g : Option ℕ) → n < 3 → Typed (n + 1) t → g ≡ f → walk 0 p n f (tlv_bytes t ++ rest) ≡ walk 0 (p + (2 + length t.contents)) (n + 1) g rest
  right_first g early is same = goes p n t rest is.whole f g false (judged_first p n (kind t.high) t.contents early is.type) (ap Ok (sym same))

  right_other : (g : Option ℕ) → 3 ≤ n → Other t → g ≡ f → walk 0 p n f (tlv_bytes t ++ rest) ≡ walk 0 (p + (2 + length t.contents)) (n + 1) g rest
  right_other g late is same =
      let no = is.no_hello in
      goes p n t rest is.whole f g false
      (judged_late p n (kind t.high) t.contents late (ne_eqb (kind t.high) 0 is.no_end)
      ∙ ap (λ b. cond (b && not (eqb (length t.contents) 86)) (Err (Length p)) (Ok (Filled (length t.contents) b))) no)
      (ap Ok (sym same))

  right_hello : (g : Option ℕ) → 3 ≤ n → HelloTlv t → f ≡ None → g ≡ Some p → walk 0 p n f (tlv_bytes t ++ rest) ≡ walk 0 (p + (2 + length t.contents)) (n + 1) g rest
  right_hello g late is none some =
      goes p n t rest is.whole f g true
      (judged_late p n (kind t.high) t.contents late (hello_no_end t is.is)
      ∙ (λ i. cond (is.is i && not (eqb (is.long i) 86)) (Err (Length p)) (Ok (Filled (length t.contents) (is.is i)))))
      (ap (λ o. noted o true p) none ∙ ap Ok (sym some))

  pub right : (g : Option ℕ) → Right p n f g t → walk 0 p n f (tlv_bytes t ++ rest) ≡ walk 0 (p + (2 + length t.contents)) (n + 1) g rest
  right g so =
      ⊎_elim (λ a. right_first g a.0 a.1 a.2) (⊎_elim (λ b. right_other g b.0 b.1 b.2) (λ c. right_hello g c.0 c.1 c.2 c.3)) so

ends : (p n : ℕ) (f : Option ℕ) (ignored : List ℕ) → 3 ≤ n → walk 0 p n f (0 ∷ 0 ∷ ignored) ≡ Ok f
ends p n f ignored late =
    let t : Tlv = record { high = 0; low = 0; contents = [] } in
    turned p n f (0 ∷ 0 ∷ ignored) ∙ ap (Turn p n f (0 ∷ ignored)) (whole_at p n t ignored refl ∙ judged_end p n (kind t.high) t.contents late refl)

-- A right row up to an end is walked.
pub run_walked : (p n : ℕ) (f g : Option ℕ) (ts : List Tlv) (ignored : List ℕ) → Run p n f g ts → walk 0 p n f (tlvs_bytes ts ++ 0 ∷ 0 ∷ ignored) ≡ Ok g
run_walked p n f g [] ignored so = ends p n f ignored so.0 ∙ ap Ok so.1
run_walked p n f g (t ∷ ts) ignored so =
    ap (walk 0 p n f) (append_assoc (tlv_bytes t) (tlvs_bytes ts) (0 ∷ 0 ∷ ignored))
    ∙ right p n f t (tlvs_bytes ts ++ 0 ∷ 0 ∷ ignored) so.0 so.1
    ∙ run_walked (p + (2 + length t.contents)) (n + 1) so.0 g ts ignored so.2

-- ---- and back: what is walked to an end is a right row

-- the front of the rest is a whole TLV, or the walk stops there
abbrev Cut : ℕ → ℕ → List ℕ → Type 0
Cut p n bs = ((t : Tlv) × (rest : List ℕ) × (bs ≡ tlv_bytes t ++ rest) × Whole t) ⊎ ((e : TlvFault) × (tlv_at p n bs ≡ Err e))

cut : (p n : ℕ) (bs : List ℕ) → Cut p n bs
cut p n [] = inr (NoEnd p, refl)
cut p n (a ∷ []) = inr (NoEnd (p + 1), refl)
cut p n (a ∷ b ∷ bs) =
    ⊎_elim
    (λ past. inr (Past p, rw (lt-ltb (length bs) (size a b) past)))
    (λ fits. inl (
      record { high = a; low = b; contents = take (size a b) bs },
      drop (size a b) bs,
      ap (λ l. a ∷ b ∷ l) (sym (take-append-drop (size a b) bs)),
      sym (length-take-le (size a b) bs fits),
    ))
    (cases_lt (length bs) (size a b))

-- what a walk has passed that ended well with g found
pub record Walked (p n : ℕ) (f g : Option ℕ) (bs : List ℕ) : Type 0 where
  pub tlvs : List Tlv
  pub ignored : List ℕ
  pub is : bs ≡ tlvs_bytes tlvs ++ 0 ∷ 0 ∷ ignored
  pub run : Run p n f g tlvs

-- it has stopped at t, or goes on behind it
abbrev Step : ℕ → ℕ → Option ℕ → Option ℕ → Tlv → List ℕ → Type 0
Step p n f g t rest =
    ((3 ≤ n) × (f ≡ g) × (tlv_bytes t ++ rest ≡ 0 ∷ 0 ∷ rest))
    ⊎ ((h : Option ℕ) × Right p n f h t × (walk 0 (p + (2 + length t.contents)) (n + 1) h rest ≡ Ok g))

no_bytes : (t : Tlv) (rest : List ℕ) → Whole t → kind t.high ≡ 0 → length t.contents ≡ 0 → tlv_bytes t ++ rest ≡ 0 ∷ 0 ∷ rest
no_bytes t rest whole type none =
    let high : t.high ≡ 0 = omega arith in
    let low : t.low ≡ 0 = omega arith in
    let nil = nil_from_length t.contents none in
    (λ i. high i ∷ low i ∷ (nil i ++ rest))

module _ (p n : ℕ) (f g : Option ℕ) (t : Tlv) (rest : List ℕ) (whole : Whole t) (ok : walk 0 p n f (tlv_bytes t ++ rest) ≡ Ok g) where
  -- what t is judged to be decides
  by_judged : Turn p n f (t.low ∷ (t.contents ++ rest)) (judged p n (kind t.high) t.contents) ≡ Ok g
  by_judged = sym (turned p n f (tlv_bytes t ++ rest) ∙ ap (Turn p n f (t.low ∷ (t.contents ++ rest))) (whole_at p n t rest whole)) ∙ ok

  not_fault : {X : Type 0} (e : TlvFault) → judged p n (kind t.high) t.contents ≡ Err e → X
  not_fault e is = unlike (sym (ap (Turn p n f (t.low ∷ (t.contents ++ rest))) is) ∙ by_judged)

  goes_on : (h : Option ℕ) → Right p n f h t → Step p n f g t rest
  goes_on h so = inr (h, so, sym (right p n f t rest h so) ∙ ok)

  step_first : n < 3 → Step p n f g t rest
  step_first early =
      ⊎_elim
      (λ due. goes_on f (inl (early, record { whole = whole; type = eqb-true (kind t.high) (n + 1) due }, refl)))
      (λ other. not_fault (Order p) (judged_wrong p n (kind t.high) t.contents early other))
      (cases_Bool (eqb (kind t.high) (n + 1)))

  step_end : 3 ≤ n → eqb (kind t.high) 0 ≡ true → Step p n f g t rest
  step_end late type =
      ⊎_elim
      (λ none.
      let is : judged p n (kind t.high) t.contents ≡ Ok End = judged_end p n (kind t.high) t.contents late type ∙ ap (λ b. cond b (Ok End) (Err (FilledEnd p))) none in
      let same : ◌≡◌ {A = Result (Option ℕ) TlvFault} (Ok f) (Ok g) = sym (ap (Turn p n f (t.low ∷ (t.contents ++ rest))) is) ∙ by_judged in
      inl (late, cc, no_bytes t rest whole (eqb-true (kind t.high) 0 type) (eqb-true (length t.contents) 0 none)))
      (λ some. not_fault (FilledEnd p) (judged_end p n (kind t.high) t.contents late type ∙ ap (λ b. cond b (Ok End) (Err (FilledEnd p))) some))
      (cases_Bool (eqb (length t.contents) 0))

  -- a HELLO that is none's second
  step_hello : 3 ≤ n → eqb (kind t.high) 0 ≡ false → is_hello t ≡ true → length t.contents ≡ 86 → (o : Option ℕ) → f ≡ o → Step p n f g t rest
  step_hello late type is long None none = goes_on (Some p) (inr (inr (late, record { whole = whole; is = is; long = long }, none, refl)))
  step_hello late type is long (Some q) some =
      let judged_so : judged p n (kind t.high) t.contents ≡ Ok (Filled (length t.contents) true) =
      judged_late p n (kind t.high) t.contents late type ∙ (λ i. cond (is i && not (eqb (long i) 86)) (Err (Length p)) (Ok (Filled (length t.contents) (is i))))
      in
      let twice : Turn p n f (t.low ∷ (t.contents ++ rest)) (Ok (Filled (length t.contents) true)) ≡ Err (Second p) =
      ap (λ o. Turn p n o (t.low ∷ (t.contents ++ rest)) (Ok (Filled (length t.contents) true))) some
      in
      unlike (sym (ap (Turn p n f (t.low ∷ (t.contents ++ rest))) judged_so ∙ twice) ∙ by_judged)

  step_late : 3 ≤ n → eqb (kind t.high) 0 ≡ false → Step p n f g t rest
  step_late late type =
      ⊎_elim
      (λ is.
      ⊎_elim
      (λ long. step_hello late type is (eqb-true (length t.contents) 86 long) f refl)
      (λ other. not_fault (Length p) (judged_late p n (kind t.high) t.contents late type ∙ (λ i. cond (is i && not (other i)) (Err (Length p)) (Ok (Filled (length t.contents) (is i))))))
      (cases_Bool (eqb (length t.contents) 86)))
      (λ no. goes_on f (inr (inl (late, record { whole = whole; no_end = eqb-false (kind t.high) 0 type; no_hello = no }, refl))))
      (cases_Bool (is_hello t))

  step : Step p n f g t rest
  step =
      ⊎_elim step_first
      (λ late. ⊎_elim (step_end late) (step_late late) (cases_Bool (eqb (kind t.high) 0)))
      (cases_lt n 3)

-- the walk of a shorter rest is known
onward :
    (most p n : ℕ) (f g : Option ℕ) (bs : List ℕ) → length bs ≤ suc most → walk 0 p n f bs ≡ Ok g
    → ((q m : ℕ) (h : Option ℕ) (rest : List ℕ) → length rest ≤ most → walk 0 q m h rest ≡ Ok g → Walked q m h g rest)
    → (t : Tlv) (rest : List ℕ) → bs ≡ tlv_bytes t ++ rest → Step p n f g t rest → Walked p n f g bs
onward most p n f g bs fits ok more t rest is so =
    ⊎_elim
    (λ end. record { tlvs = []; ignored = rest; is = is ∙ end.2; run = (end.0, end.1) })
    (λ on.
    let shorter : length rest ≤ most = omega (arith, ap length is, length-append t.contents rest) in
    let w = more (p + (2 + length t.contents)) (n + 1) on.0 rest shorter on.2 in
    record {
      tlvs = t ∷ w.tlvs;
      ignored = w.ignored;
      is = is ∙ ap (λ l. tlv_bytes t ++ l) w.is ∙ sym (append_assoc (tlv_bytes t) (tlvs_bytes w.tlvs) (0 ∷ 0 ∷ w.ignored));
      run = (on.0, on.1, w.run);
    })
    so

walked_within : (most p n : ℕ) (f g : Option ℕ) (bs : List ℕ) → length bs ≤ most → walk 0 p n f bs ≡ Ok g → Walked p n f g bs
walked_within zero p n f g bs fits ok = unlike (ap (walk 0 p n f) (sym (nil_from_length bs (omega arith))) ∙ ok)
walked_within (suc most) p n f g bs fits ok =
    ⊎_elim
    (λ c. onward most p n f g bs fits ok (λ q m h rest. walked_within most q m h g rest) c.0 c.1 c.2
    (step p n f g c.0 c.1 c.3 (ap (walk 0 p n f) (sym c.2) ∙ ok)))
    (λ stop. unlike (sym (turned p n f bs ∙ ap (Turn p n f (drop 1 bs)) stop.1) ∙ ok))
    (cut p n bs)

pub walked : (p n : ℕ) (f g : Option ℕ) (bs : List ℕ) → walk 0 p n f bs ≡ Ok g → Walked p n f g bs
walked p n f g bs ok = walked_within (length bs) p n f g bs (omega arith) ok
