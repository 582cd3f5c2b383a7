-- What a step of the walk tells. Assumes nothing.
use Rattle.std.proofs.Common.{◌≡◌, ℕ, suc, ◌<◌, Bool, true, false, cond, eqb, ◌⊎◌, List, [], ◌∷◌, get_or, set, Some, None, Option, sym, refl, ◌∙◌, inl, inr, arith}
use Rattle.std.proofs.lemmas.Bool.{eqb-true, eqb-false, cond-true, cond-false, cases_Bool}
use Rattle.report.specs.Reports.{Report}
use Rattle.train.specs.Line.{forward, turned}
use Rattle.train.specs.Truth.{report}
use Rattle.fitting.specs.Neighbours.{blank, place_of, Names}
use Rattle.fitting.specs.Walk.{unmet, if_some, ended, walk, Step, way_from, next_from, standing}

pub some_from : {A B : Type 0} (o : Option A) (f : A → Option B) (b : B) → if_some o f ≡ Some b → (a : A) × (o ≡ Some a) × (f a ≡ Some b)
some_from None f b e = absurd (let z : ◌≡◌ {A = ℕ} 0 1 = cc in omega arith)
some_from (Some a) f b e = (a, refl, e)

pub none_some : {A : Type 0} {a : A} → None ≡ Some a → ⊥
none_some e = let z : ◌≡◌ {A = ℕ} 0 1 = cc in omega arith

pub some_same : {A : Type 0} {a b : A} → Some a ≡ Some b → a ≡ b
some_same e = cc

-- the walk is over
pub record Over (met : List Bool) (m : ℕ) (ts : List Step) : Type 0 where
  pub last : m ≡ 0
  pub all : unmet met ≡ 0
  pub none : ts ≡ []

-- the walk goes on
pub record Went (n : ℕ) (held : List Report) (met : List Bool) (l m : ℕ) (ts : List Step) : Type 0 where
  pub more : 0 < m
  pub i : ℕ
  pub at : place_of m 0 held ≡ Some i
  pub new : get_or met i true ≡ false
  pub rest : List Step
  pub on : walk n held (set met i true) (get_or held i blank).mac (next_from l (get_or held i blank)) ≡ Some rest
  pub all : ts ≡ record { place = i; way = way_from l (get_or held i blank) } ∷ rest

pub over : (met : List Bool) (m : ℕ) (ts : List Step) → m ≡ 0 → ended met ≡ Some ts → Over met m ts
over met m ts z e = elim (cases_Bool (eqb (unmet met) 0)) [
  | inl t ↦ record { last = z; all = eqb-true (unmet met) 0 t; none = sym (some_same (sym (cond-true _ (Some []) None t) ∙ e)) }
  | inr f ↦ absurd (none_some (sym (cond-false _ (Some []) None f) ∙ e))
]

pub no_turn : (held : List Report) (met : List Bool) (l m : ℕ) (ts : List Step) → walk 0 held met l m ≡ Some ts → Over met m ts
no_turn held met l m ts e = elim (cases_Bool (eqb m 0)) [
  | inl t ↦ over met m ts (eqb-true m 0 t) (sym (cond-true _ (ended met) None t) ∙ e)
  | inr f ↦ absurd (none_some (sym (cond-false _ (ended met) None f) ∙ e))
]

pub turn : (n : ℕ) (held : List Report) (met : List Bool) (l m : ℕ) (ts : List Step) → walk (suc n) held met l m ≡ Some ts → Over met m ts ⊎ Went n held met l m ts
turn n held met l m ts e = elim (cases_Bool (eqb m 0)) [
  | inl t ↦ inl (over met m ts (eqb-true m 0 t) (sym (cond-true _ (ended met) _ t) ∙ e))
  | inr f ↦ (
      let p = some_from (place_of m 0 held) _ ts (sym (cond-false _ (ended met) _ f) ∙ e) in
      let more : 0 < m = let z = eqb-false m 0 f in omega arith in
      elim (cases_Bool (get_or met p.0 true)) [
        | inl t ↦ absurd (none_some (sym (cond-true _ None _ t) ∙ p.2))
        | inr g ↦ (
            let q = some_from _ _ ts (sym (cond-false _ None _ g) ∙ p.2) in
            inr (record { more = more; i = p.0; at = p.1; new = g; rest = q.0; on = q.1; all = sym (some_same q.2) }))
      ])
]

-- a report with l beside it is what the node reports that stands so
report_by : (l : ℕ) (r : Report) (b : Bool) → eqb r.side1 l ≡ b → Names r l → report l (standing (cond b forward turned) r) (cond b r.side2 r.side1) ≡ r
report_by l r true e n = λ i. record { mac = r.mac; side1 = sym (eqb-true r.side1 l e) i; side2 = r.side2; uuid = r.uuid; position = r.position; masks = r.masks }
report_by l r false e (inl q) = absurd (eqb-false r.side1 l e q)
report_by l r false e (inr q) = λ i. record { mac = r.mac; side1 = r.side1; side2 = sym q i; uuid = r.uuid; position = r.position; masks = r.masks }

pub report_back : (l : ℕ) (r : Report) → Names r l → report l (standing (way_from l r) r) (next_from l r) ≡ r
report_back l r n = report_by l r (eqb r.side1 l) refl n

-- the next is one of its neighbours
names_by : (r : Report) (b : Bool) → Names r (cond b r.side2 r.side1)
names_by r true = inr refl
names_by r false = inl refl

pub names_next : (l : ℕ) (r : Report) → Names r (next_from l r)
names_next l r = names_by r (eqb r.side1 l)
