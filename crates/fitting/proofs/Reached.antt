-- Where there is a chain, the walk finds one. Assumes nothing.
use Rattle.std.proofs.Common.{◌≡◌, ℕ, zero, suc, ◌<◌, Bool, true, false, cond, eqb, List, [], ◌∷◌, map, length, get_or, set, Some, None, Option, sym, refl, ap, ◌∙◌, subst, inl, inr, arith}
use Rattle.std.proofs.lemmas.Bool.{eqb-true, eqb-false, eq-eqb, ne_eqb, cond-true, cond-false, cases_Bool, cases_eq, both_ways}
use Rattle.report.specs.Reports.{Report}
use Rattle.train.specs.Line.{Way, forward, turned}
use Rattle.train.specs.Truth.{Awake, facing, report, reports, first_mac, In, here, there}
use Rattle.train.proofs.Chain.{OwnMacs, own_rest}
use Rattle.fitting.specs.Neighbours.{blank, place_of, Names, OwnReports}
use Rattle.fitting.specs.Walk.{end_mac, unmet, if_some, ended, walk, Step, way_from, next_from, stands, chain_of, IsChain}
use Rattle.fitting.proofs.Found.{in_cases, in_none, in_get_or, in_same, found_at, finds, found_same, one_place, mark_same, mark_other, unmet_less, unmet_none, unmarked, unmarked_at, unmarked_within}
use Rattle.fitting.proofs.Followed.{end_is}
use Rattle.fitting.proofs.Chain.{names_left, absent_in, real_macs, from_end}

next_by : (w : Way) (l r : ℕ) (b : Bool) → eqb (facing w l r) l ≡ b → cond b (facing w r l) (facing w l r) ≡ r
next_by forward l r true e = refl
next_by forward l r false e = absurd (eqb-false l l e refl)
next_by turned l r true e = sym (eqb-true r l e)
next_by turned l r false e = refl

next_right : (l : ℕ) (a : Awake) (r : ℕ) → next_from l (report l a r) ≡ r
next_right l a r = next_by a.way l r (eqb (facing a.way l r) l) refl

pub walk_on : (n : ℕ) (held : List Report) (met : List Bool) (l m i : ℕ) (o : Option (List Step)) → 0 < m → place_of m 0 held ≡ Some i → get_or met i true ≡ false
    → walk n held (set met i true) (get_or held i blank).mac (next_from l (get_or held i blank)) ≡ o
    → walk (suc n) held met l m ≡ if_some o (λ ss. Some (record { place = i; way = way_from l (get_or held i blank) } ∷ ss))
walk_on n held met l m i o more at new on =
    cond-false _ (ended met) _ (ne_eqb m 0 (λ e. omega arith))
    ∙ ap (λ p. if_some p (λ j. cond (get_or met j true) None
    (if_some (walk n held (set met j true) (get_or held j blank).mac (next_from l (get_or held j blank)))
    (λ ss. Some (record { place = j; way = way_from l (get_or held j blank) } ∷ ss))))) at
    ∙ cond-false _ None _ new
    ∙ ap (λ p. if_some p (λ ss. Some (record { place = i; way = way_from l (get_or held i blank) } ∷ ss))) on

walk_end : (n : ℕ) (held : List Report) (met : List Bool) (l : ℕ) → unmet met ≡ 0 → walk n held met l 0 ≡ Some []
walk_end zero held met l z = cond-true _ (Some []) None (eq-eqb (unmet met) 0 z)
walk_end (suc n) held met l z = cond-true _ (Some []) None (eq-eqb (unmet met) 0 z)

module _ (held : List Report) (own : OwnReports held) where
  -- what is not met is what the rest of the row reports
  record Left (met : List Bool) (l : ℕ) (xs : List Awake) : Type 0 where
    fresh : (k : ℕ) → k < length held → In (get_or held k blank) (reports l xs) → get_or met k true ≡ false
    cover : (k : ℕ) → get_or met k true ≡ false → (k < length held) × In (get_or held k blank) (reports l xs)

  left_on : (met : List Bool) (l : ℕ) (a : Awake) (xs : List Awake) (i : ℕ) → OwnMacs (a ∷ xs) → i < length held → get_or held i blank ≡ report l a (first_mac xs)
      → Left met l (a ∷ xs) → Left (set met i true) a.mac xs
  left_on met l a xs i p h same f = record {
    fresh = λ k w j.
        let d : k ≡ i → ⊥ = λ e. absent_in a.mac a.mac xs (get_or held k blank) p.1.0 j (sym (ap (λ v. v.mac) (ap (λ v. get_or held v blank) e ∙ same))) in
        mark_other met i k d ∙ f.fresh k w (there j);
    cover = λ k g.
        let d : k ≡ i → ⊥ = λ e. both_ways (get_or (set met i true) i true) (ap (λ v. get_or (set met i true) v true) (sym e) ∙ g) (mark_same met i) in
        let c = f.cover k (sym (mark_other met i k d) ∙ g) in (
          c.0,
          elim (in_cases c.1) [
            | inl e ↦ absurd (d (one_place held own.differ k i c.0 h (ap (λ v. v.mac) (e ∙ sym same))))
            | inr j ↦ j
          ],
        );
  }

  reach : (xs : List Awake) (n : ℕ) (met : List Bool) (l : ℕ) → OwnMacs xs → ((r : Report) → In r (reports l xs) → In r held) → n ≡ unmet met → Left met l xs
      → (ts : List Step) × (walk n held met l (first_mac xs) ≡ Some ts)
  reach [] n met l p ins e f = ([], walk_end n held met l (unmet_none met (λ k g. in_none (f.cover k g).1)))
  reach (a ∷ xs) zero met l p ins e f =
      let r = report l a (first_mac xs) in
      let i = finds r held 0 (ins r here) in
      let h = found_at a.mac held i.0 i.1 in
      let same = found_same held own.differ r i.0 (ins r here) i.1 in
      let less = unmet_less met i.0 (f.fresh i.0 h.0 (in_same (sym same) here)) in
      absurd (omega arith)
  reach (a ∷ xs) (suc n) met l p ins e f =
      let r = report l a (first_mac xs) in
      let i = finds r held 0 (ins r here) in
      let h = found_at a.mac held i.0 i.1 in
      let same = found_same held own.differ r i.0 (ins r here) i.1 in
      let new = f.fresh i.0 h.0 (in_same (sym same) here) in
      let less = unmet_less met i.0 new in
      let met' = set met i.0 true in
      let t = reach xs n met' a.mac (own_rest a xs p) (λ s j. ins s (there j)) (omega arith) (left_on met l a xs i.0 p h.0 same f) in
      let on : walk n held met' (get_or held i.0 blank).mac (next_from l (get_or held i.0 blank)) ≡ Some t.0
      = ap (λ v. walk n held met' v.mac (next_from l v)) same ∙ ap (walk n held met' a.mac) (next_right l a (first_mac xs)) ∙ t.1 in
      (_, walk_on n held met l a.mac i.0 (Some t.0) p.0.0.0 i.1 new on)

end_none : (rs : List Report) (s : Report) → end_mac rs ≡ 0 → In s rs → Names s 0 → (r : Report) × In r rs × (r.mac ≡ 0)
end_none [] s e i n = absurd (in_none i)
end_none (r ∷ rs) s e i n = elim (cases_Bool (eqb r.side1 0)) [
  | inl t ↦ (r, here, sym (cond-true _ r.mac _ t) ∙ e)
  | inr f ↦ (elim (cases_Bool (eqb r.side2 0)) [
    | inl t ↦ (r, here, sym (cond-true _ r.mac (end_mac rs) t) ∙ sym (cond-false _ r.mac _ f) ∙ e)
    | inr g ↦ (elim (in_cases i) [
      | inl q ↦ absurd (elim (subst (λ v. Names v 0) q n) [ inl z ↦ eqb-false r.side1 0 f z | inr z ↦ eqb-false r.side2 0 g z ])
      | inr j ↦ (let h = end_none rs s (sym (cond-false _ r.mac (end_mac rs) g) ∙ sym (cond-false _ r.mac _ f) ∙ e) j n in (h.0, there h.1, h.2))
    ])
  ])
]

-- a chain that begins where the walk does
begins : (held : List Report) (xs : List Awake) → OwnReports held → IsChain held xs → (ys : List Awake) × IsChain held ys × (first_mac ys ≡ end_mac held)
begins held [] o c = elim (cases_eq (end_mac held) 0) [
  | inl z ↦ ([], c, sym z)
  | inr d ↦ (let s = end_is held (omega arith) in absurd (in_none (c.each_true s.0 s.1)))
]
begins held (a ∷ xs) o c = elim (cases_eq (end_mac held) 0) [
  | inl z ↦ (
      let r = end_none held (report 0 a (first_mac xs)) z (c.each_held _ here) (names_left a.way 0 (first_mac xs)) in
      let p = o.real r.0 r.1 in
      absurd (let q = r.2 in omega arith))
  | inr d ↦ (
      let s = end_is held (omega arith) in
      let y = from_end held (a ∷ xs) s.0 o c s.1 s.3 in
      (y.0, y.1, y.2 ∙ s.2))
]

pub reached : (held : List Report) (xs : List Awake) → OwnReports held → IsChain held xs → (ys : List Awake) × (chain_of held ≡ Some ys)
reached held xs u c =
    let y = begins held xs u c in
    let t = reach held u y.0 (length held) (map (λ _. false) held) 0 (real_macs held y.0 u y.1, y.1.own_macs) y.1.each_held (sym (unmarked held)) (record {
      fresh = λ k h i. unmarked_at held k h;
      cover = λ k g. let h = unmarked_within held k g in (h, y.1.each_true _ (in_get_or blank held k h));
    }) in
    (map (stands held) t.0, ap (λ o. if_some o (λ ss. Some (map (stands held) ss))) (ap (walk (length held) held (map (λ _. false) held) 0) (sym y.2) ∙ t.1))
