-- A walk that finds a chain followed one. Assumes nothing.
use Rattle.std.proofs.Common.{◌≡◌, ℕ, zero, suc, ◌<◌, Bool, true, false, eqb, List, [], ◌∷◌, map, length, get_or, set, Some, sym, refl, ap, ◌∙◌, subst, ap₂, inl, inr, arith}
use Rattle.std.proofs.lemmas.Bool.{eqb-true, cond-true, cond-false, cases_Bool, cases_eq, both_ways}
use Rattle.report.specs.Reports.{Report}
use Rattle.train.specs.Truth.{Awake, report, reports, first_mac, In, here, there}
use Rattle.train.proofs.Chain.{Absent, OwnMacs}
use Rattle.fitting.specs.Neighbours.{blank, place_of, Names, NoLoose, OwnReports}
use Rattle.fitting.specs.Walk.{end_mac, walk, Step, way_from, next_from, standing, stands, steps_of, chain_of, IsChain}
use Rattle.fitting.proofs.Found.{in_cases, in_none, in_get_or, at_in, in_same, found_at, found_same, mark_same, mark_other, unmet_less, unmarked_at}
use Rattle.fitting.proofs.Steps.{some_from, some_same, Over, Went, no_turn, turn, report_back, names_next}

abbrev at : List Report → Step → Report
at held s = get_or held s.place blank

-- what is known of the rest of a walk, ts, from the MAC m with l to its left
record Follows (held : List Report) (met : List Bool) (l m : ℕ) (ts : List Step) : Type 0 where
  first : first_mac (map (stands held) ts) ≡ m
  told : reports l (map (stands held) ts) ≡ map (at held) ts
  within : (r : Report) → In r (map (at held) ts) → In r held
  fresh : (x k : ℕ) → place_of x 0 held ≡ Some k → get_or met k true ≡ true → Absent x (map (stands held) ts)
  apart : OwnMacs (map (stands held) ts)
  covers : (k : ℕ) → get_or met k true ≡ false → In (get_or held k blank) (map (at held) ts)

-- the report under m names l
abbrev Named : List Report → ℕ → ℕ → Type 0
Named held l m = (j : ℕ) → 0 < m → place_of m 0 held ≡ Some j → Names (get_or held j blank) l

module _ (held : List Report) (own : OwnReports held) (firm : NoLoose held) where
  follow_over : (met : List Bool) (l m : ℕ) (ts : List Step) → Over met m ts → Follows held met l m ts
  follow_over met l m ts o =
      subst (Follows held met l m) (sym o.none) (record {
        first = sym o.last;
        told = refl;
        within = λ r i. absurd (in_none i);
        fresh = λ x k p q. tt;
        apart = (tt, tt);
        covers = λ k f. absurd (let w = unmet_less met k f in let z = o.all in omega arith);
      })

  -- the next report names the one that named it
  named_next : (l i : ℕ) → i < length held → Named held (get_or held i blank).mac (next_from l (get_or held i blank))
  named_next l i h j more p =
      let r = get_or held i blank in
      let s = firm r (in_get_or blank held i h) (next_from l r) (names_next l r) more in
      let q : place_of s.0.mac 0 held ≡ Some j = ap (λ x. place_of x 0 held) s.2 ∙ p in
      subst (λ v. Names v r.mac) (sym (found_same held own.differ s.0 j s.1 q)) s.3

  follow_went : (n : ℕ) (met : List Bool) (l m : ℕ) (ts : List Step) → Named held l m → (w : Went n held met l m ts)
      → Follows held (set met w.i true) (get_or held w.i blank).mac (next_from l (get_or held w.i blank)) w.rest
      → Follows held met l m ts
  follow_went n met l m ts named w f =
      let i = w.i in
      let r = get_or held i blank in
      let here_at = found_at m held i w.at in
      subst (Follows held met l m) (sym w.all) (record {
        first = here_at.1;
        told = ap₂ ◌∷◌ (ap (report l (standing (way_from l r) r)) f.first ∙ report_back l r (named i w.more w.at)) f.told;
        within = λ s j. elim (in_cases j) [ inl e ↦ in_same (sym e) (in_get_or blank held i here_at.0) | inr k ↦ f.within s k ];
        fresh = λ x k p q. (
          (λ e. let same : Some k ≡ Some i = sym p ∙ ap (λ v. place_of v 0 held) (e ∙ here_at.1) ∙ w.at in
              both_ways (get_or met i true) w.new (ap (λ v. get_or met v true) (sym (some_same same)) ∙ q)),
          f.fresh x k p (elim (cases_eq k i) [ inl e ↦ ap (λ v. get_or (set met i true) v true) e ∙ mark_same met i | inr d ↦ mark_other met i k d ∙ q ]),
        );
        apart = (
          (own.real r (in_get_or blank held i here_at.0), f.apart.0),
          (f.fresh r.mac i (ap (λ v. place_of v 0 held) here_at.1 ∙ w.at) (mark_same met i), f.apart.1),
        );
        covers = λ k g. elim (cases_eq k i) [
          | inl e ↦ in_same (ap (λ v. get_or held v blank) (sym e)) here
          | inr d ↦ there (f.covers k (mark_other met i k d ∙ g))
        ];
      })

  follow : (n : ℕ) (met : List Bool) (l m : ℕ) (ts : List Step) → Named held l m → walk n held met l m ≡ Some ts → Follows held met l m ts
  follow zero met l m ts named e = follow_over met l m ts (no_turn held met l m ts e)
  follow (suc n) met l m ts named e = elim (turn n held met l m ts e) [
    | inl o ↦ follow_over met l m ts o
    | inr w ↦ follow_went n met l m ts named w
        (follow n (set met w.i true) (get_or held w.i blank).mac (next_from l (get_or held w.i blank)) w.rest
        (named_next l w.i (found_at m held w.i w.at).0) w.on)
  ]

-- the report that the walk starts at has a side with no neighbour
pub end_is : (rs : List Report) → 0 < end_mac rs → (s : Report) × In s rs × (s.mac ≡ end_mac rs) × Names s 0
end_is [] h = absurd (omega arith)
end_is (r ∷ rs) h = elim (cases_Bool (eqb r.side1 0)) [
  | inl t ↦ (r, here, sym (cond-true _ _ _ t), inl (eqb-true r.side1 0 t))
  | inr f ↦ (elim (cases_Bool (eqb r.side2 0)) [
    | inl t ↦ (r, here, sym (cond-false _ _ _ f ∙ cond-true _ _ _ t), inr (eqb-true r.side2 0 t))
    | inr g ↦ (
        let e : end_mac (r ∷ rs) ≡ end_mac rs = cond-false _ r.mac _ f ∙ cond-false _ r.mac (end_mac rs) g in
        let s = end_is rs (omega arith) in (s.0, there s.1, s.2 ∙ sym e, s.3))
  ])
]

named_first : (held : List Report) → OwnReports held → Named held 0 (end_mac held)
named_first held u j more p =
    let s = end_is held more in
    subst (λ v. Names v 0) (sym (found_same held u.differ s.0 j s.1 (ap (λ x. place_of x 0 held) s.2 ∙ p))) s.3

pub sound : (held : List Report) (xs : List Awake) → OwnReports held → NoLoose held → chain_of held ≡ Some xs → IsChain held xs
sound held xs u firm e =
    let p = some_from (steps_of held) _ xs e in
    let ts = p.0 in
    let f = follow held u firm (length held) (map (λ _. false) held) 0 (end_mac held) ts (named_first held u) p.1 in
    subst (IsChain held) (some_same p.2) (record {
      each_true = λ r i.
          let k = at_in blank r held i in
          subst (λ v. In r v) (sym f.told) (in_same k.2 (f.covers k.0 (unmarked_at held k.0 k.1)));
      each_held = λ r i. f.within r (subst (λ v. In r v) f.told i);
      own_macs = f.apart.1;
    })
