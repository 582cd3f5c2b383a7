-- The tests for neighbours tell what they say, for reports with MACs of their own. Assumes nothing.
use Rattle.std.proofs.Common.{◌≡◌, ℕ, Bool, true, false, cond, ◌||◌, eqb, ◌⊎◌, List, [], ◌∷◌, get_or, Some, None, Option, sym, refl, ap, ◌∙◌, subst, inl, inr, ⊎_elim, arith}
use mathlib.Core.Bool.{false≢true}
use Rattle.std.proofs.lemmas.Bool.{eqb-true, eqb-false, eq-eqb, cases_Bool, both_ways, and_parts, and_from}
use Rattle.report.specs.Reports.{Report}
use Rattle.train.specs.Truth.{In, here, there}
use Rattle.fitting.specs.Neighbours.{blank, place_of, is_some, is_held, names, names_at, is_backed, is_firm, loose_of, loose, IsLoose, Names, Backed, Firm, NoLoose}
use Rattle.fitting.proofs.Found.{Own, in_cases, in_none, in_get_or, found_at, finds, found_same}
use Rattle.fitting.proofs.Steps.{none_some, some_same}

or_true : (a b : Bool) → a || b ≡ true → (a ≡ true) ⊎ (b ≡ true)
or_true true b e = inl refl
or_true false b e = inr e

true_or : (a b : Bool) → (a ≡ true) ⊎ (b ≡ true) → a || b ≡ true
true_or true b h = refl
true_or false true h = refl
true_or false false (inl e) = e
true_or false false (inr e) = e

pub names_tell : (m : ℕ) (r : Report) → names m r ≡ true → Names r m
names_tell m r e = ⊎_elim (λ h. inl (eqb-true _ _ h)) (λ h. inr (eqb-true _ _ h)) (or_true (eqb r.side1 m) (eqb r.side2 m) e)

pub names_so : (m : ℕ) (r : Report) → Names r m → names m r ≡ true
names_so m r n = true_or (eqb r.side1 m) (eqb r.side2 m) (⊎_elim (λ h. inl (eq-eqb _ _ h)) (λ h. inr (eq-eqb _ _ h)) n)

-- a report is held
pub held_tells : (m : ℕ) (held : List Report) → is_held m held ≡ true → (r : Report) × In r held × (r.mac ≡ m)
held_tells m held e = go (place_of m 0 held) refl e
  where
    go : (o : Option ℕ) → place_of m 0 held ≡ o → is_some o ≡ true → (r : Report) × In r held × (r.mac ≡ m)
    go None k e = absurd (false≢true e)
    go (Some i) k e = let h = found_at m held i k in (get_or held i blank, in_get_or blank held i h.0, h.1)

pub held_so : (r : Report) (held : List Report) → In r held → is_held r.mac held ≡ true
held_so r held i = ap is_some (finds r held 0 i).1

-- a neighbour is held and names back
module _ (held : List Report) (m x : ℕ) where
  backed_tells : is_backed held m x ≡ true → Backed held m x
  backed_tells e p = ⊎_elim (λ h. absurd (omega (arith, eqb-true x 0 h))) (λ h. go (place_of x 0 held) refl h) (or_true (eqb x 0) _ e)
    where
      go : (o : Option ℕ) → place_of x 0 held ≡ o → names_at m held o ≡ true → (s : Report) × In s held × (s.mac ≡ x) × Names s m
      go None k e = absurd (false≢true e)
      go (Some i) k e = let h = found_at x held i k in (get_or held i blank, in_get_or blank held i h.0, h.1, names_tell m (get_or held i blank) e)

  backed_so : Own held → Backed held m x → is_backed held m x ≡ true
  backed_so u b = ⊎_elim (λ h. true_or (eqb x 0) _ (inl h)) (λ h. true_or (eqb x 0) _ (inr (go (b (let d = eqb-false x 0 h in omega arith))))) (cases_Bool (eqb x 0))
    where
      go : (s : Report) × In s held × (s.mac ≡ x) × Names s m → names_at m held (place_of x 0 held) ≡ true
      go s =
          let f = finds s.0 held 0 s.1 in
          let at : place_of x 0 held ≡ Some f.0 = ap (λ v. place_of v 0 held) (sym s.2) ∙ f.1 in
          ap (names_at m held) at ∙ ap (names m) (found_same held u s.0 f.0 s.1 f.1) ∙ names_so m s.0 s.3

pub firm_tells : (held : List Report) (r : Report) → is_firm held r ≡ true → Firm held r
firm_tells held r e x n =
    let p = and_parts _ _ e in
    ⊎_elim (λ h. subst (Backed held r.mac) h (backed_tells held r.mac r.side1 p.0))
    (λ h. subst (Backed held r.mac) h (backed_tells held r.mac r.side2 p.1)) n

pub firm_so : (held : List Report) (r : Report) → Own held → Firm held r → is_firm held r ≡ true
firm_so held r u f =
    and_from _ _ (backed_so held r.mac r.side1 u (f r.side1 (inl refl))) (backed_so held r.mac r.side2 u (f r.side2 (inr refl)))

-- the first loose report
loose_none_of : (held rs : List Report) → loose_of held rs ≡ None → (r : Report) → In r rs → is_firm held r ≡ true
loose_none_of held [] e r i = absurd (in_none i)
loose_none_of held (s ∷ rs) e r i = go (is_firm held s) refl e (λ k j. loose_none_of held rs k r j)
  where
    go : (b : Bool) → is_firm held s ≡ b → cond b (loose_of held rs) (Some s.mac) ≡ None → (loose_of held rs ≡ None → In r rs → is_firm held r ≡ true) → is_firm held r ≡ true
    go true k e ih = ⊎_elim (λ q. ap (is_firm held) q ∙ k) (ih e) (in_cases i)
    go false k e ih = absurd (none_some (sym e))

loose_some_of : (held rs : List Report) (m : ℕ) → loose_of held rs ≡ Some m → (r : Report) × In r rs × (r.mac ≡ m) × (is_firm held r ≡ false)
loose_some_of held [] m e = absurd (none_some e)
loose_some_of held (s ∷ rs) m e = go (is_firm held s) refl e (loose_some_of held rs m)
  where
    go : (b : Bool) → is_firm held s ≡ b → cond b (loose_of held rs) (Some s.mac) ≡ Some m
        → (loose_of held rs ≡ Some m → (r : Report) × In r rs × (r.mac ≡ m) × (is_firm held r ≡ false))
        → (r : Report) × In r (s ∷ rs) × (r.mac ≡ m) × (is_firm held r ≡ false)
    go true k e ih = let h = ih e in (h.0, there h.1, h.2, h.3)
    go false k e ih = (s, here, some_same e, k)

pub none_loose : (held : List Report) → loose held ≡ None → NoLoose held
none_loose held e r i = firm_tells held r (loose_none_of held held e r i)

pub one_loose : (held : List Report) (m : ℕ) → loose held ≡ Some m → IsLoose held m
one_loose held m e = let h = loose_some_of held held m e in record { report = h.0; among = h.1; own = h.2; not_firm = h.3 }

pub not_firm_tells : (held : List Report) (r : Report) → Own held → is_firm held r ≡ false → Firm held r → ⊥
not_firm_tells held r u e f = both_ways (is_firm held r) e (firm_so held r u f)

pub no_loose_so : (held : List Report) → Own held → NoLoose held → (o : Option ℕ) → loose held ≡ o → o ≡ None
no_loose_so held u h None e = refl
no_loose_so held u h (Some m) e = let k = one_loose held m e in absurd (not_firm_tells held k.report u k.not_firm (h k.report k.among))
