-- Subnets are numbered from 1 without a gap, one to each network of each consist. Assumes nothing.
use Rattle.std.proofs.Common.{◌≡◌, ℕ, suc, ◌+◌, ◌≤◌, Bool, true, false, cond, ◌&&◌, eqb, ◌⊎◌, List, [], ◌∷◌, map, length, Some, None, Option, sym, refl, ap, ◌∙◌, subst, ap₂, inl, inr, ⊎_elim, arith}
use mathlib.Core.Bool.{false≢true}
use Rattle.std.specs.List.{AllByRecursion}
use Rattle.std.proofs.lemmas.List.{length-map}
use Rattle.std.proofs.lemmas.Bool.{eqb-true, eq-eqb, and_parts, and_from, cases_eq}
use Rattle.train.specs.Truth.{In, here, there}
use Rattle.train.specs.Rules.{Different}
use Rattle.train.specs.Rows.{Met, Meeting, meetings, Row, row, given, numbered, rows_met}
use Rattle.train.specs.Numbers.{RunsTo, climbs}
use Rattle.train.proofs.Members.{not_in, in_cases, in_map, of_map, all_in, no_more}
use Rattle.train.proofs.Climbing.{climb}
use Rattle.train.proofs.Meetings.{after, from}

abbrev value : Option ℕ → ℕ
value (Some n) = n
value None = 0

abbrev is_none : Option ℕ → Type 0
is_none (Some n) = ⊥
is_none None = Unit {0}

not_none : (n : ℕ) → None ≡ Some n → ⊥
not_none n e = subst is_none e tt

-- the network of a row, with its consist
abbrev pub key : Row → ℕ × ℕ
key r = (r.uuid, r.cn)

abbrev pub keys : List Row → List (ℕ × ℕ)
keys rs = map key rs

-- where a subnet was found
given_cases : (r : Row) (rs : List Row) (u c s : ℕ) → given u c (r ∷ rs) ≡ Some s → ((r.uuid ≡ u) × (r.cn ≡ c) × (r.subnet ≡ s)) ⊎ (given u c rs ≡ Some s)
given_cases r rs u c s e = go (eqb r.uuid u && eqb r.cn c) refl e
  where
    go : (b : Bool) → (eqb r.uuid u && eqb r.cn c) ≡ b → cond b (Some r.subnet) (given u c rs) ≡ Some s
        → ((r.uuid ≡ u) × (r.cn ≡ c) × (r.subnet ≡ s)) ⊎ (given u c rs ≡ Some s)
    go true h k = let p = and_parts _ _ h in inl (eqb-true _ _ p.0, eqb-true _ _ p.1, ap value k)
    go false h k = inr k

-- where none was found
given_none : (r : Row) (rs : List Row) (u c : ℕ) → given u c (r ∷ rs) ≡ None → ((u, c) ≡ key r → ⊥) × (given u c rs ≡ None)
given_none r rs u c e = go (eqb r.uuid u && eqb r.cn c) refl e
  where
    go : (b : Bool) → (eqb r.uuid u && eqb r.cn c) ≡ b → cond b (Some r.subnet) (given u c rs) ≡ None → ((u, c) ≡ key r → ⊥) × (given u c rs ≡ None)
    go true h k = absurd (not_none r.subnet (sym k))
    go false h k =
        (λ q. false≢true (sym h ∙ and_from _ _ (eq-eqb r.uuid u (ap (λ p. p.0) (sym q))) (eq-eqb r.cn c (ap (λ p. p.1) (sym q)))), k)

given_key : (u c s : ℕ) (fs : List Row) → given u c fs ≡ Some s → In (u, c) (keys fs)
given_key u c s [] e = absurd (not_none s e)
given_key u c s (r ∷ fs) e =
    ⊎_elim (λ h. subst (λ p. In p (key r ∷ keys fs)) (ap₂ (λ x y. (x, y)) h.0 h.1) here) (λ h. there (given_key u c s fs h)) (given_cases r fs u c s e)

new_key : (u c : ℕ) (fs : List Row) → given u c fs ≡ None → AllByRecursion (λ k. (u, c) ≡ k → ⊥) (keys fs)
new_key u c [] e = tt
new_key u c (r ∷ fs) e = let m = given_none r fs u c e in (m.0, new_key u c fs m.1)

-- the first rows of the subnets given so far: from 1 to their number, each to one network
pub record Firsts (fs : List Row) : Type 0 where
  pub range : (u c s : ℕ) → given u c fs ≡ Some s → (1 ≤ s) × (s ≤ length fs)
  pub one : (u c v d s : ℕ) → given u c fs ≡ Some s → given v d fs ≡ Some s → (u ≡ v) × (c ≡ d)
  pub each : (s : ℕ) → 1 ≤ s → s ≤ length fs → (r : Row) × In r fs × (r.subnet ≡ s)
  pub own : Different (keys fs)

pub no_firsts : Firsts []
no_firsts = record {
  range = λ u c s e. absurd (not_none s e);
  one = λ u c v d s e f. absurd (not_none s e);
  each = λ s h k. absurd (omega arith);
  own = tt;
}

pub one_more : (fs : List Row) (m : Meeting) → Firsts fs → given m.uuid m.cn fs ≡ None → Firsts (after fs m)
one_more fs m h n = record {
  range = λ u c s e. ⊎_elim (λ k. (omega (arith, k.2), omega (arith, k.2))) (λ k. let b = h.range u c s k in (b.0, omega (arith, b.1))) (given_cases r fs u c s e);
  one = λ u c v d s e f. both u c v d s (given_cases r fs u c s e) (given_cases r fs v d s f);
  each = λ s a b. ⊎_elim (λ e. (r, here, sym e)) (λ d. let t = h.each s a (omega arith) in (t.0, there t.1, t.2)) (cases_eq s (length fs + 1));
  own = (new_key m.uuid m.cn fs n, h.own);
}
  where
    r : Row
    r = row m (length fs + 1)

    both : (u c v d s : ℕ) → ((r.uuid ≡ u) × (r.cn ≡ c) × (r.subnet ≡ s)) ⊎ (given u c fs ≡ Some s)
        → ((r.uuid ≡ v) × (r.cn ≡ d) × (r.subnet ≡ s)) ⊎ (given v d fs ≡ Some s) → (u ≡ v) × (c ≡ d)
    both u c v d s (inl j) (inl k) = (sym j.0 ∙ k.0, sym j.1 ∙ k.1)
    both u c v d s (inl j) (inr k) = absurd (omega (arith, j.2, (h.range v d s k).1))
    both u c v d s (inr j) (inl k) = absurd (omega (arith, k.2, (h.range u c s j).1))
    both u c v d s (inr j) (inr k) = h.one u c v d s j k

-- all first rows in the end: the subnet of each row is found in them, and they are rows themselves
pub record Table (fs : List Row) (rs : List Row) : Type 0 where
  pub all : List Row
  pub firsts : Firsts all
  pub keeps : (u c s : ℕ) → given u c fs ≡ Some s → given u c all ≡ Some s
  pub found : AllByRecursion (λ r. given r.uuid r.cn all ≡ Some r.subnet) rs
  pub of_rows : (r : Row) → In r all → In r fs ⊎ In r rs

-- another row in front does not change what was given
given_later : (r : Row) (fs : List Row) (u c s : ℕ) → given r.uuid r.cn fs ≡ None → given u c fs ≡ Some s → given u c (r ∷ fs) ≡ Some s
given_later r fs u c s n e = go (eqb r.uuid u && eqb r.cn c) refl
  where
    go : (b : Bool) → (eqb r.uuid u && eqb r.cn c) ≡ b → cond b (Some r.subnet) (given u c fs) ≡ Some s
    go true h =
        let p = and_parts _ _ h in
        absurd (not_none s (sym n ∙ ap₂ (λ x y. given x y fs) (eqb-true _ _ p.0) (eqb-true _ _ p.1) ∙ e))
    go false h = e

given_first : (r : Row) (rs : List Row) → given r.uuid r.cn (r ∷ rs) ≡ Some r.subnet
given_first r rs = ap (λ b. cond b (Some r.subnet) (given r.uuid r.cn rs)) (and_from _ _ (eq-eqb r.uuid r.uuid refl) (eq-eqb r.cn r.cn refl))

pub table : (fs : List Row) (ms : List Meeting) → Firsts fs → Table fs (numbered fs ms)
table fs [] h = record { all = fs; firsts = h; keeps = λ u c s e. e; found = tt; of_rows = λ r i. inl i }
table fs (m ∷ ms) h = go (given m.uuid m.cn fs) refl (table fs ms h) (λ n. table (after fs m) ms (one_more fs m h n))
  where
    next : Row
    next = row m (length fs + 1)

    go : (o : Option ℕ) → given m.uuid m.cn fs ≡ o → Table fs (numbered fs ms)
        → (given m.uuid m.cn fs ≡ None → Table (after fs m) (numbered (after fs m) ms)) → Table fs (from fs m ms o)
    go (Some s) e i j = record {
      all = i.all;
      firsts = i.firsts;
      keeps = i.keeps;
      found = (i.keeps m.uuid m.cn s e, i.found);
      of_rows = λ r k. ⊎_elim (λ a. inl a) (λ b. inr (there b)) (i.of_rows r k);
    }
    go None e i j =
        let t = j e in
        record {
          all = t.all;
          firsts = t.firsts;
          keeps = λ u c s k. t.keeps u c s (given_later next fs u c s e k);
          found = (t.keeps m.uuid m.cn (length fs + 1) (given_first next fs), t.found);
          of_rows = λ r k.
              ⊎_elim (λ a. ⊎_elim (λ q. inr (subst (λ x. In x (from fs m ms None)) (sym q) here)) (λ b. inl b) (in_cases r next fs a)) (λ b. inr (there b))
              (t.of_rows r k);
        }

-- subnets first occur in the order of their numbers
abbrev subnets : List Row → List ℕ
subnets rs = map (λ r. r.subnet) rs

climbing : (fs : List Row) (ms : List Meeting) → Firsts fs → climbs (length fs) (subnets (numbered fs ms)) ≡ true
climbing fs [] h = refl
climbing fs (m ∷ ms) h = go (given m.uuid m.cn fs) refl (climbing fs ms h) (λ n. climbing (after fs m) ms (one_more fs m h n))
  where
    go : (o : Option ℕ) → given m.uuid m.cn fs ≡ o → climbs (length fs) (subnets (numbered fs ms)) ≡ true
        → (given m.uuid m.cn fs ≡ None → climbs (suc (length fs)) (subnets (numbered (after fs m) ms)) ≡ true)
        → climbs (length fs) (subnets (from fs m ms o)) ≡ true
    go (Some s) e i j =
        let b = h.range _ _ s e in
        climb (length fs) s (length fs) (subnets (numbered fs ms)) b.0 (omega (arith, b.1)) (omega (arith, b.1)) i
    go None e i j = climb (length fs) (length fs + 1) (suc (length fs)) (subnets (numbered (after fs m) ms)) (omega arith) (omega arith) (omega arith) (j e)

module _ (xs : List Met) where
  pub subnets_climb : climbs 0 (map (λ r. r.subnet) (rows_met xs)) ≡ true
  subnets_climb = climbing [] (meetings 1 xs) no_firsts

  last_table : Table [] (rows_met xs)
  last_table = table [] (meetings 1 xs) no_firsts

  found_in_table : (r : Row) → In r (rows_met xs) → given r.uuid r.cn last_table.all ≡ Some r.subnet
  found_in_table r i = all_in (λ q. given q.uuid q.cn last_table.all ≡ Some q.subnet) r (rows_met xs) i last_table.found

  a_row : (r : Row) → In r last_table.all → In r (rows_met xs)
  a_row r i = ⊎_elim (λ a. absurd (not_in r a)) (λ b. b) (last_table.of_rows r i)

  pub one_network : (r s : Row) → In r (rows_met xs) → In s (rows_met xs) → r.subnet ≡ s.subnet → (r.uuid ≡ s.uuid) × (r.cn ≡ s.cn)
  one_network r s i j e = last_table.firsts.one r.uuid r.cn s.uuid s.cn s.subnet (found_in_table r i ∙ ap Some e) (found_in_table s j)

  pub one_subnet : (r s : Row) → In r (rows_met xs) → In s (rows_met xs) → r.uuid ≡ s.uuid → r.cn ≡ s.cn → r.subnet ≡ s.subnet
  one_subnet r s i j p q = ap value (sym (found_in_table r i) ∙ ap₂ (λ x y. given x y last_table.all) p q ∙ found_in_table s j)

  runs_to_firsts : RunsTo (length last_table.all) (subnets (rows_met xs))
  runs_to_firsts = record {
    between = λ s i.
        let r = of_map (λ q. q.subnet) s (rows_met xs) i in
        subst (λ n. (1 ≤ n) × (n ≤ length last_table.all)) (sym r.2) (last_table.firsts.range r.0.uuid r.0.cn r.0.subnet (found_in_table r.0 r.1));
    each = λ s h k.
        let r = last_table.firsts.each s h k in
        subst (λ n. In n (subnets (rows_met xs))) r.2 (in_map (λ q. q.subnet) r.0 (rows_met xs) (a_row r.0 r.1));
  }

  -- where the networks of the rows are those of a list without repetition, the subnets run to its length
  pub subnets_run : (ks : List (ℕ × ℕ)) → Different ks → ((r : Row) → In r (rows_met xs) → In (key r) ks)
      → ((k : ℕ × ℕ) → In k ks → (r : Row) × In r (rows_met xs) × (key r ≡ k)) → RunsTo (length ks) (map (λ r. r.subnet) (rows_met xs))
  subnets_run ks d listed served =
      let fs = last_table.all in
      let fewer : (k : ℕ × ℕ) → In k (keys fs) → In k ks = λ k i. let r = of_map key k fs i in subst (λ p. In p ks) (sym r.2) (listed r.0 (a_row r.0 r.1)) in
      let more : (k : ℕ × ℕ) → In k ks → In k (keys fs) = λ k i. let r = served k i in subst (λ p. In p (keys fs)) r.2 (given_key _ _ _ fs (found_in_table r.0 r.1)) in
      let e : length fs ≡ length ks = omega (arith, length-map fs key, no_more (keys fs) ks last_table.firsts.own fewer, no_more ks (keys fs) d more) in
      subst (λ n. RunsTo n (map (λ r. r.subnet) (rows_met xs))) e runs_to_firsts
