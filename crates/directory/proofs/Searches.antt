-- Searches through rows, one row on. Assumes nothing.
use Rattle.std.proofs.Common.{◌≡◌, ℕ, zero, suc, ◌<◌, ◌≤◌, min, max, Bool, true, false, cond, ◌&&◌, eqb, List, [], ◌∷◌, map, length, get_or, Some, None, filter, Option, ◌==◌, sym, refl, ap, ◌∙◌, ⊎_elim, arith, find, option_map, fold}
use Rattle.std.proofs.lemmas.List.{length-map}
use Rattle.std.proofs.lemmas.Bool.{cases_Bool, cond-true, cond-false}
use Rattle.std.proofs.iter.Yields.{fronts}
use Rattle.std.proofs.lemmas.Iterator.{YieldsList, YieldsList-from_slice}
use Rattle.std.specs.Iterator.{AlwaysYields}
use Rattle.std.specs.Slice.Iter.{iter_rest}
use Rattle.std.specs.declared.slice.Iter.{Iter}
use Rattle.report.specs.Reports.{whole}
use Rattle.train.specs.Numbers.{climbs}
use Rattle.train.specs.Rows.{Row, given}
use Rattle.directory.specs.declared.row.Row as code
use Rattle.directory.specs.Meaning.{blank, row_means, rows_mean}
use Rattle.directory.specs.Asked.{lowest, highest, nodes_of, position_in, is_at, number_of, network_of}
use Rattle.directory.specs.Keys.{place_told}
use Rattle.std.proofs.lemmas.Iterator.Adapters.{option_map_id}
use Rattle.directory.proofs.Climbs.{climbs_first}

-- what is found among the meanings is the meaning of what is found
found_map :
    {A B C : Type 0} (p : B → Bool) (f : A → B) (g : A → C) (h : B → C) → ((x : A) → g x ≡ h (f x)) → (xs : List A)
    → option_map g (find (λ x. p (f x)) xs) ≡ option_map h (find p (map f xs))
found_map p f g h same [] = refl
found_map p f g h same (x ∷ xs) =
    elim (p (f x)) as (λ b. option_map g (cond b (Some x) (find (λ x. p (f x)) xs)) ≡ option_map h (cond b (Some (f x)) (find p (map f xs))))
    [ true ↦ ap Some (same x) | false ↦ found_map p f g h same xs ]

-- the nodes of a consist
consist_nodes : (u : ℕ) (rows : List code.Row) → map (λ r. r.node) (filter (λ r. whole r.uuid == u) rows) ≡ nodes_of u (rows_mean rows)
consist_nodes u [] = refl
consist_nodes u (r ∷ rows) =
    let rest = filter (λ r. eqb (whole r.uuid) u) rows in
    let meant = filter (λ r. eqb r.uuid u) (rows_mean rows) in
    elim (eqb (whole r.uuid) u) as (λ b. map (λ r. r.node) (cond b (r ∷ rest) rest) ≡ map (λ r. r.node) (cond b (row_means r ∷ meant) meant))
    [ true ↦ ap (λ ns. r.node ∷ ns) (consist_nodes u rows) | false ↦ consist_nodes u rows ]

-- the subnet of a network is that of its first row
pub given_first : (u c : ℕ) (rs : List Row) → option_map (λ r. r.subnet) (find (λ r. eqb r.uuid u && eqb r.cn c) rs) ≡ given u c rs
given_first u c [] = refl
given_first u c (r ∷ rs) =
    elim (eqb r.uuid u && eqb r.cn c)
    as (λ b.
    option_map (λ r. r.subnet) (cond b (Some r) (find (λ r. eqb r.uuid u && eqb r.cn c) rs)) ≡ cond b (Some r.subnet) (given u c rs))
    [ true ↦ refl | false ↦ given_first u c rs ]

-- a row that is found has a number
pub found_some :
    (p : Row → Bool) (rows : List code.Row) (t : ℕ) (r : Row) → climbs t (map (λ r. r.node) rows) ≡ true
    → Some r ≡ find p (rows_mean rows) → 1 ≤ r.node
found_some p [] t r run e = absurd (let z : ◌≡◌ {A = ℕ} 0 1 = cc in let f : ⊥ = omega arith in f)
found_some p (q ∷ rows) t r run e =
    let c = climbs_first t q.node (map (λ r. r.node) rows) run in
    let rest = find p (rows_mean rows) in
    ⊎_elim
    (λ on. let h = cond-true (p (row_means q)) (Some (row_means q)) rest on in let is : r ≡ row_means q = cc in rw is c.0)
    (λ off. found_some p rows (max t q.node) r c.2 (e ∙ cond-false (p (row_means q)) (Some (row_means q)) rest off))
    (cases_Bool (p (row_means q)))

-- The lowest and the highest number of a consist.
pub lowest_below : (n : ℕ) (xs : List ℕ) → lowest n xs ≤ n
lowest_below n [] = omega arith
lowest_below n (x ∷ xs) = omega (arith, lowest_below (min n x) xs)

pub lowest_some :
    (u n t : ℕ) (rows : List code.Row) → climbs t (map (λ r. r.node) rows) ≡ true → 1 ≤ n → 1 ≤ lowest n (nodes_of u (rows_mean rows))
lowest_some u n t [] run some = some
lowest_some u n t (r ∷ rows) run some =
    let c = climbs_first t r.node (map (λ r. r.node) rows) run in
    let rest = filter (λ r. eqb r.uuid u) (rows_mean rows) in
    elim (eqb (whole r.uuid) u) as (λ b. 1 ≤ lowest n (map (λ r. r.node) (cond b (row_means r ∷ rest) rest))) [
      | true ↦ lowest_some u (min n r.node) (max t r.node) rows c.2 (omega (arith, c.0))
      | false ↦ lowest_some u n (max t r.node) rows c.2 some
    ]

-- The searches of the code, by what the rows mean.
pub network_meant : (s : ℕ) (rows : List code.Row) → place_told (option_map (λ r. (r.uuid, r.network)) (find (λ r. r.subnet == s) rows)) ≡ network_of s (rows_mean rows)
network_meant s rows =
    told (find (λ r. r.subnet == s) rows) ∙ found_map (λ r. r.subnet == s) row_means (λ r. (whole r.uuid, r.network)) (λ r. (r.uuid, r.cn)) (λ r. refl) rows
  where
    told : (o : Option code.Row) → place_told (option_map (λ r. (r.uuid, r.network)) o) ≡ option_map (λ r. (whole r.uuid, r.network)) o
    told None = refl
    told (Some r) = refl

pub subnet_meant : (u c : ℕ) (rows : List code.Row) → option_map (λ r. r.subnet) (find (λ r. whole r.uuid == u && r.network == c) rows) ≡ given u c (rows_mean rows)
subnet_meant u c rows = found_map (λ r. r.uuid == u && r.cn == c) row_means (λ r. r.subnet) (λ r. r.subnet) (λ r. refl) rows ∙ given_first u c (rows_mean rows)

pub number_meant : (u p : ℕ) (rows : List code.Row) → option_map (λ r. r.node) (find (λ r. whole r.uuid == u && position_in (rows_mean rows) (row_means r) == p) rows) ≡ number_of u p (rows_mean rows)
number_meant u p rows = found_map (is_at (rows_mean rows) u p) row_means (λ r. r.node) (λ r. r.node) (λ r. refl) rows

-- the row of a node
pub row_meant : (n : ℕ) (rows : List code.Row) → option_map row_means (find (λ r. r.node == n) rows) ≡ find (λ r. r.node == n) (rows_mean rows)
row_meant n rows = found_map (λ r. r.node == n) row_means row_means (λ r. r) (λ r. refl) rows ∙ option_map_id (find (λ r. r.node == n) (rows_mean rows))

-- the lowest and the highest number, counted together
abbrev pair : ℕ → ℕ → ℕ × ℕ
pair low high = (low, high)

folded : (low high : ℕ) (ns : List ℕ) → fold (λ s n. (min s.0 n, max s.1 n)) (low, high) ns ≡ pair (lowest low ns) (highest high ns)
folded low high [] = refl
folded low high (n ∷ ns) = folded (min low n) (max high n) ns

pub spanned : (u n : ℕ) (rows : List code.Row) → fold (λ s n. (min s.0 n, max s.1 n)) (n, n) (map (λ r. r.node) (filter (λ r. whole r.uuid == u) rows)) ≡ pair (lowest n (nodes_of u (rows_mean rows))) (highest n (nodes_of u (rows_mean rows)))
spanned u n rows = ap (fold (λ s n. (min s.0 n, max s.1 n)) (n, n)) (consist_nodes u rows) ∙ folded n n (nodes_of u (rows_mean rows))

yields_by :
    {S A B C : Type 0} (steps : S → Option A → S → Type 0) (v : A → B) (h : B → C) (ys : List B) (s : S)
    → AlwaysYields steps v s ys → AlwaysYields steps (λ x. h (v x)) s (map h ys)
yields_by steps v h [] s e = e
yields_by steps v h (y ∷ ys) s e = (e.0, λ x j k. (ap h (e.1 x j k).0, yields_by steps v h ys j (e.1 x j k).1))

-- a walk through rows, by what they mean
pub YieldsList-from_rows : {s : Iter code.Row} (rows : List code.Row) → iter_rest s ≡ rows → YieldsList fronts (λ y. row_means y.now) s (rows_mean rows)
YieldsList-from_rows {s} rows e = record { runs = yields_by fronts (λ y. y.now) row_means rows s (YieldsList-from_slice rows e).runs }
