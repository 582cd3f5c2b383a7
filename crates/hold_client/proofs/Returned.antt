-- A hold that is granted and returned leaves the node as it was. Assumes nothing.
use Rattle.std.proofs.Common.{◌≡◌, ℕ, ◌+◌, ◌-◌, Bool, true, false, cond, ltb, None, Ok, Err, sym, refl, ap, ◌∙◌, arith}
use Rattle.std.proofs.lemmas.Bool.{eq-eqb, lt-ltb, and_from}
use Rattle.plan.specs.Meaning.{Meaning}
use Rattle.runs.specs.Calls.{State, told, granted, refused, busy, hold, give_back, with_holds, after, hold_answer}
use Rattle.hold_client.specs.Held.{if_free}

-- any plan
abbrev pub no_plan : Meaning
no_plan = record { serves = λ _. None; stands = λ _. None }

module _ (s t : State) (left : t ≡ after s hold) where
  busy_at : (b : Bool) → ltb s.holds 16 ≡ b → refused busy ≡ told granted (cond b (Ok s.mac) (Err busy)) → t ≡ with_holds s (cond b (s.holds + 1) s.holds) → (ltb s.holds 16 ≡ false) × (t ≡ s)
  busy_at true e f l = cc
  busy_at false e f l = (e, l)

  pub no_hold_left : refused busy ≡ told granted (hold_answer s) → (ltb s.holds 16 ≡ false) × (t ≡ s)
  no_hold_left f = busy_at (ltb s.holds 16) refl f left

  granted_at : (m : ℕ) (b : Bool) → ltb s.holds 16 ≡ b → granted m ≡ told granted (cond b (Ok s.mac) (Err busy)) → t ≡ with_holds s (cond b (s.holds + 1) s.holds)
      → (ltb s.holds 16 ≡ true) × (m ≡ s.mac) × (t ≡ with_holds s (s.holds + 1))
  granted_at m true e f l = (e, (let z : m ≡ s.mac = cc in z), l)
  granted_at m false e f l = cc

  pub granted_left : (m : ℕ) → granted m ≡ told granted (hold_answer s) → (ltb s.holds 16 ≡ true) × (m ≡ s.mac) × (t ≡ with_holds s (s.holds + 1))
  granted_left m f = granted_at m (ltb s.holds 16) refl f left

  -- and once it is returned
  pub as_before : (m : ℕ) (w : State) → granted m ≡ told granted (hold_answer s) → w ≡ after t (give_back m) → w ≡ s
  as_before m w f e =
      let g = granted_left m f in
      e ∙ ap (λ x. after x (give_back m)) g.2 ∙ ap (λ k. after (with_holds s (s.holds + 1)) (give_back k)) g.1
      ∙ ap (λ b. with_holds s (cond b (s.holds + 1 - 1) (s.holds + 1))) (and_from _ _ (eq-eqb s.mac s.mac refl) (lt-ltb 0 (s.holds + 1) (omega arith)))
      ∙ ap (with_holds s) (let z : s.holds + 1 - 1 ≡ s.holds = omega arith in z)

  -- so what is read is what was there before
  module _ {A : Type 0} (f : State → A) (same : (k : ℕ) → f (with_holds s k) ≡ f s) (otherwise : A) where
    pub read_free : (m : ℕ) → granted m ≡ told granted (hold_answer s) → f t ≡ if_free s (f s) otherwise
    read_free m e =
        let g = granted_left m e in
        ap f g.2 ∙ same (s.holds + 1) ∙ ap (λ b. cond b (f s) otherwise) (sym g.0)

    pub read_busy : refused busy ≡ told granted (hold_answer s) → otherwise ≡ if_free s (f s) otherwise
    read_busy e = ap (λ b. cond b (f s) otherwise) (sym (no_hold_left e).0)
