-- How subnets are given, row by row. Assumes nothing.
use Rattle.std.proofs.Common.{◌≡◌, ℕ, ◌+◌, ◌≤◌, max, Bool, true, false, cond, ◌&&◌, eqb, List, [], ◌∷◌, ◌++◌, map, length, Some, None, Option, sym, refl, ap, ◌∙◌, ⊎_elim, arith}
use Rattle.std.proofs.lemmas.List.{append_assoc, append-nil, map_push}
use Rattle.std.proofs.lemmas.Bool.{cases_Bool, cond-true, cond-false, and_parts, eqb-true}
use Rattle.train.specs.Numbers.{climbs}
use Rattle.train.specs.Rows.{Meeting, Row, row, given, numbered}
use Rattle.directory.specs.Asked.{highest}
use Rattle.directory.proofs.Climbs.{highest_push, highest_above, climbs_first, climbs_push}

-- a subnet that was given, or else the next one
abbrev pub or_next : ℕ → Option ℕ → ℕ
or_next top (Some s) = s
or_next top None = top + 1

abbrev pub is_for : ℕ → ℕ → Row → Bool
is_for u c r = eqb r.uuid u && eqb r.cn c

-- one row more
abbrev or_else : Option ℕ → Option ℕ → Option ℕ
or_else (Some s) o = Some s
or_else None o = o

or_none : (o : Option ℕ) → or_else o None ≡ o
or_none (Some x) = refl
or_none None = refl

given_push : (u c : ℕ) (rs : List Row) (r : Row) → given u c (rs ++ r ∷ []) ≡ or_else (given u c rs) (cond (is_for u c r) (Some r.subnet) None)
given_push u c [] r = refl
given_push u c (q ∷ rs) r =
    elim (is_for u c q) as (λ b. cond b (Some q.subnet) (given u c (rs ++ r ∷ [])) ≡ or_else (cond b (Some q.subnet) (given u c rs)) (cond (is_for u c r) (Some r.subnet) None)) [
      | true ↦ refl
      | false ↦ given_push u c rs r
    ]

-- the rows so far are `rs`, those that are left come of the meetings `left`, and together they are `all`
pub record Filled (rs : List Row) (top : ℕ) (left : List Meeting) (all : List Row) : Type 0 where
  pub firsts : List Row
  pub same : (u c : ℕ) → given u c firsts ≡ given u c rs
  pub many : length firsts ≡ top
  pub subnets_run : climbs 0 (map (λ r. r.subnet) rs) ≡ true
  pub top_is : highest 0 (map (λ r. r.subnet) rs) ≡ top
  pub goes_on : rs ++ numbered firsts left ≡ all

-- a subnet that was given has its place among the numbers
pub given_within :
    (u c s t : ℕ) (rs : List Row) → climbs t (map (λ r. r.subnet) rs) ≡ true → given u c rs ≡ Some s
    → (1 ≤ s) × (s ≤ highest t (map (λ r. r.subnet) rs))
given_within u c s t [] e g = absurd (let z : ◌≡◌ {A = ℕ} 0 1 = cc in let f : ⊥ = omega arith in f)
given_within u c s t (r ∷ rs) e g =
    let p = climbs_first t r.subnet (map (λ r. r.subnet) rs) e in
    ⊎_elim
    (λ is.
    let here : s ≡ r.subnet = (let h = cond-true (is_for u c r) (Some r.subnet) (given u c rs) is in cc) in
    let up = highest_above (max t r.subnet) (map (λ r. r.subnet) rs) in
    (omega arith, omega arith))
    (λ is.
    let later : given u c rs ≡ Some s = sym (cond-false (is_for u c r) (Some r.subnet) (given u c rs) is) ∙ g in
    given_within u c s (max t r.subnet) rs p.2 later)
    (cases_Bool (is_for u c r))

pub numbered_some :
    (firsts : List Row) (m : Meeting) (ms : List Meeting) (s : ℕ) → given m.uuid m.cn firsts ≡ Some s
    → numbered firsts (m ∷ ms) ≡ row m s ∷ numbered firsts ms
numbered_some firsts m ms s e = rw (e, numbered)

pub numbered_none :
    (firsts : List Row) (m : Meeting) (ms : List Meeting) → given m.uuid m.cn firsts ≡ None
    → numbered firsts (m ∷ ms) ≡ row m (length firsts + 1) ∷ numbered (row m (length firsts + 1) ∷ firsts) ms
numbered_none firsts m ms e = rw (e, numbered)

-- a row that repeats a subnet gives nothing new
repeats :
    (rs : List Row) (m : Meeting) (s u c : ℕ) → given m.uuid m.cn rs ≡ Some s → given u c (rs ++ row m s ∷ []) ≡ given u c rs
repeats rs m s u c e =
    ⊎_elim
    (λ is.
    let p = and_parts (eqb m.uuid u) (eqb m.cn c) is in
    let eu = sym (eqb-true m.uuid u p.0) in
    let ec = sym (eqb-true m.cn c p.1) in
    let there : given u c rs ≡ Some s = (λ i. given (eu i) (ec i) rs) ∙ e in
    given_push u c rs (row m s) ∙ rw there)
    (λ is.
    let none : cond (is_for u c (row m s)) (Some s) None ≡ None = cond-false (is_for u c (row m s)) (Some s) None is in
    given_push u c rs (row m s) ∙ ap (λ o. or_else (given u c rs) o) none ∙ or_none (given u c rs))
    (cases_Bool (is_for u c (row m s)))

-- a row that gives a subnet is found, last among the rows or first among the first ones
gives :
    (firsts rs : List Row) (m : Meeting) (s u c : ℕ) → given m.uuid m.cn rs ≡ None → given u c firsts ≡ given u c rs
    → given u c (row m s ∷ firsts) ≡ given u c (rs ++ row m s ∷ [])
gives firsts rs m s u c e same =
    ⊎_elim
    (λ is.
    let p = and_parts (eqb m.uuid u) (eqb m.cn c) is in
    let eu = sym (eqb-true m.uuid u p.0) in
    let ec = sym (eqb-true m.cn c p.1) in
    let there : given u c rs ≡ None = (λ i. given (eu i) (ec i) rs) ∙ e in
    cond-true (is_for u c (row m s)) (Some s) (given u c firsts) is
    ∙ sym (given_push u c rs (row m s) ∙ ap (λ o. or_else o (cond (is_for u c (row m s)) (Some s) None)) there
    ∙ cond-true (is_for u c (row m s)) (Some s) None is))
    (λ is.
    cond-false (is_for u c (row m s)) (Some s) (given u c firsts) is ∙ same
    ∙ sym (given_push u c rs (row m s) ∙ ap (λ o. or_else (given u c rs) o) (cond-false (is_for u c (row m s)) (Some s) None is) ∙ or_none (given u c rs)))
    (cases_Bool (is_for u c (row m s)))

module _ (rs : List Row) (top : ℕ) (m : Meeting) (left : List Meeting) (all : List Row) (s : ℕ) (f : Filled rs top (m ∷ left) all) where
  subnets_more : map (λ r. r.subnet) (rs ++ row m s ∷ []) ≡ map (λ r. r.subnet) rs ++ s ∷ []
  subnets_more = map_push (λ (r : Row). r.subnet) rs (row m s)

  runs_on : 1 ≤ s → s ≤ top + 1 → climbs 0 (map (λ r. r.subnet) (rs ++ row m s ∷ [])) ≡ true
  runs_on one next = rw subnets_more (climbs_push 0 (map (λ r. r.subnet) rs) s f.subnets_run one (rw f.top_is next))

  top_on : highest 0 (map (λ r. r.subnet) (rs ++ row m s ∷ [])) ≡ max top s
  top_on = rw subnets_more (highest_push 0 (map (λ r. r.subnet) rs) s ∙ ap (λ n. max n s) f.top_is)

  pushed : (o : Option ℕ) → given m.uuid m.cn rs ≡ o → s ≡ or_next top o → Filled (rs ++ row m s ∷ []) (max top s) left all
  pushed (Some x) e is =
      let e' : given m.uuid m.cn rs ≡ Some s = e ∙ ap (λ n. Some n) (sym is) in
      let w = given_within m.uuid m.cn s 0 rs f.subnets_run e' in
      let low : s ≤ top = omega (arith, f.top_is, w.1) in
      record {
        firsts = f.firsts;
        same = λ u c. f.same u c ∙ sym (repeats rs m s u c e');
        many = f.many ∙ omega arith;
        subnets_run = runs_on w.0 (omega arith);
        top_is = top_on;
        goes_on =
            append_assoc rs (row m s ∷ []) (numbered f.firsts left)
            ∙ ap (λ xs. rs ++ xs) (sym (numbered_some f.firsts m left s (f.same m.uuid m.cn ∙ e')))
            ∙ f.goes_on;
      }
  pushed None e is =
      let n : length f.firsts + 1 ≡ s = ap (λ k. k + 1) f.many ∙ sym is in
      record {
        firsts = row m s ∷ f.firsts;
        same = λ u c. gives f.firsts rs m s u c e (f.same u c);
        many = omega (arith, f.many);
        subnets_run = runs_on (omega arith) (omega arith);
        top_is = top_on;
        goes_on =
            append_assoc rs (row m s ∷ []) (numbered (row m s ∷ f.firsts) left)
            ∙ ap (λ xs. rs ++ xs)
            (sym (numbered_none f.firsts m left (f.same m.uuid m.cn ∙ e)
            ∙ ap (λ k. row m k ∷ numbered (row m k ∷ f.firsts) left) n))
            ∙ f.goes_on;
      }

  -- one meeting on
  pub filled_push : s ≡ or_next top (given m.uuid m.cn rs) → Filled (rs ++ row m s ∷ []) (max top s) left all
  filled_push is = pushed (given m.uuid m.cn rs) refl is

-- other words for what is left
pub filled_left :
    (rs : List Row) (top : ℕ) (left left' : List Meeting) (all : List Row) → left ≡ left' → Filled rs top left all → Filled rs top left' all
filled_left rs top left left' all e f = rw (sym e) f

pub filled_none : (ms : List Meeting) → Filled [] 0 ms (numbered [] ms)
filled_none ms = record { firsts = []; same = λ u c. refl; many = refl; subnets_run = refl; top_is = refl; goes_on = refl }

pub filled_all : (rs : List Row) (top : ℕ) (all : List Row) → Filled rs top [] all → rs ≡ all
filled_all rs top all f = sym (append-nil rs) ∙ f.goes_on
