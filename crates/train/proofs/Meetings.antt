-- The rows of nodes met: one for each network that a node serves, under the node's number. Assumes nothing.
use Rattle.std.proofs.Common.{◌≡◌, ℕ, ◌+◌, ◌≤◌, List, [], ◌∷◌, ◌++◌, map, length, Some, None, Option, sym, refl, ap, ◌∙◌, subst, ap₂, ⊎_elim, arith}
use mathlib.Core.List.{map-append}
use Rattle.std.specs.List.{AllByRecursion}
use Rattle.std.proofs.ByRecursion.{All-weaker}
use Rattle.std.proofs.lemmas.List.{length-append, length-map}
use Rattle.train.specs.Truth.{In, here, there}
use Rattle.train.specs.Rules.{networks, set_bits}
use Rattle.train.specs.Rows.{counted, Met, Meeting, meetings, Row, row, given, numbered, rows_met}
use Rattle.train.specs.Numbers.{RunsTo, Rising}
use Rattle.train.proofs.Members.{map-map, not_in, in_cases, in_left, in_right, of_append, in_map, of_map, all_in, of_counted, in_counted, counted_in}
use Rattle.train.proofs.Networks.{some_network}

abbrev pub meeting : Row → Meeting
meeting r = record { uuid = r.uuid; cn = r.cn; node = r.node; way = r.way }

abbrev pub meets : ℕ → Met → ℕ → Meeting
meets k x c = record { uuid = x.uuid; cn = c; node = k; way = x.way }

-- the first rows of subnets after a meeting of a new network
abbrev pub after : List Row → Meeting → List Row
after fs m = row m (length fs + 1) ∷ fs

-- the rows from a meeting on, where its network has the subnet o so far
abbrev pub from : List Row → Meeting → List Meeting → Option ℕ → List Row
from fs m ms (Some s) = row m s ∷ numbered fs ms
from fs m ms None = row m (length fs + 1) ∷ numbered (after fs m) ms

-- the rows have the meetings, with a subnet each
pub numbered_meetings : (fs : List Row) (ms : List Meeting) → map meeting (numbered fs ms) ≡ ms
numbered_meetings fs [] = refl
numbered_meetings fs (m ∷ ms) = go (given m.uuid m.cn fs) (numbered_meetings fs ms) (numbered_meetings (after fs m) ms)
  where
    go : (o : Option ℕ) → map meeting (numbered fs ms) ≡ ms → map meeting (numbered (after fs m) ms) ≡ ms → map meeting (from fs m ms o) ≡ m ∷ ms
    go (Some s) i j = ap (λ r. m ∷ r) i
    go None i j = ap (λ r. m ∷ r) j

of_meetings : (n : ℕ) (xs : List Met) (m : Meeting) → In m (meetings n xs)
    → (x : Met) × In (m.node, x) (counted n xs) × In m.cn (networks x.mask) × (m.uuid ≡ x.uuid) × (m.way ≡ x.way)
of_meetings n [] m i = absurd (not_in m i)
of_meetings n (x ∷ xs) m i =
    ⊎_elim
    (λ j.
    let r = of_map (meets n x) m (networks x.mask) j in (
      x,
      subst (λ k. In (k, x) (counted n (x ∷ xs))) (sym (ap (λ q. q.node) r.2)) here,
      subst (λ c. In c (networks x.mask)) (sym (ap (λ q. q.cn) r.2)) r.1,
      ap (λ q. q.uuid) r.2,
      ap (λ q. q.way) r.2,
    ))
    (λ j. let r = of_meetings (n + 1) xs m j in (r.0, there r.1, r.2, r.3, r.4))
    (of_append m (map (meets n x) (networks x.mask)) (meetings (n + 1) xs) i)

in_meetings : (n k c : ℕ) (x : Met) (xs : List Met) → In (k, x) (counted n xs) → In c (networks x.mask) → In (meets k x c) (meetings n xs)
in_meetings n k c x [] i j = absurd (not_in (k, x) i)
in_meetings n k c x (y ∷ xs) i j =
    ⊎_elim
    (λ e.
    subst (λ p. In c (networks p.1.mask) → In (meets p.0 p.1 c) (meetings n (y ∷ xs))) (sym e)
    (λ h. in_left _ (map (meets n y) (networks y.mask)) (meetings (n + 1) xs) (in_map (meets n y) c (networks y.mask) h)) j)
    (λ h. in_right _ (map (meets n y) (networks y.mask)) (meetings (n + 1) xs) (in_meetings (n + 1) k c x xs h j))
    (in_cases (k, x) (n, y) (counted (n + 1) xs) i)

module _ (xs : List Met) where
  -- each row is of the node with its number
  pub row_node : (r : Row) → In r (rows_met xs)
      → (x : Met) × In (r.node, x) (counted 1 xs) × In r.cn (networks x.mask) × (r.uuid ≡ x.uuid) × (r.way ≡ x.way)
  row_node r i = of_meetings 1 xs (meeting r) (subst (λ ms. In (meeting r) ms) (numbered_meetings [] (meetings 1 xs)) (in_map meeting r (rows_met xs) i))

  -- each network of a node has a row
  pub network_row : (k c : ℕ) (x : Met) → In (k, x) (counted 1 xs) → In c (networks x.mask)
      → (r : Row) × In r (rows_met xs) × (r.node ≡ k) × (r.cn ≡ c) × (r.uuid ≡ x.uuid) × (r.way ≡ x.way)
  network_row k c x i j =
      let m = in_meetings 1 k c x xs i j in
      let r = of_map meeting (meets k x c) (rows_met xs) (subst (λ ms. In (meets k x c) ms) (sym (numbered_meetings [] (meetings 1 xs))) m) in
      (r.0, r.1, sym (ap (λ q. q.node) r.2), sym (ap (λ q. q.cn) r.2), sym (ap (λ q. q.uuid) r.2), sym (ap (λ q. q.way) r.2))

-- a node with a mask in its range
abbrev pub Masked : Met → Type 0
Masked x = (1 ≤ x.mask) × (x.mask ≤ 255)

module _ (xs : List Met) (masked : AllByRecursion Masked xs) where
  -- each node has a row
  pub node_row : (k : ℕ) (x : Met) → In (k, x) (counted 1 xs) → (r : Row) × In r (rows_met xs) × (r.node ≡ k) × (r.uuid ≡ x.uuid)
  node_row k x i =
      let h = all_in Masked x xs (counted_in 1 k x xs i) masked in
      let c = some_network x.mask h.0 h.1 in
      let r = network_row xs k c.0 x i c.1 in
      (r.0, r.1, r.2, r.4)

  pub nodes_run : RunsTo (length xs) (map (λ r. r.node) (rows_met xs))
  nodes_run = record {
    between = λ k i.
        let r = of_map (λ q. q.node) k (rows_met xs) i in
        let x = row_node xs r.0 r.1 in
        let b = of_counted 1 r.0.node x.0 xs x.1 in
        (omega (arith, r.2, b.0), omega (arith, r.2, b.1));
    each = λ k h j.
        let x = in_counted 1 k xs h (omega arith) in
        let r = node_row k x.0 x.1 in
        subst (λ n. In n (map (λ q. q.node) (rows_met xs))) r.2 (in_map (λ q. q.node) r.0 (rows_met xs) r.1);
  }

-- node numbers rise from row to row
abbrev nodes_met : List Meeting → List ℕ
nodes_met ms = map (λ m. m.node) ms

rising_level : (n : ℕ) (cs rest : List ℕ) → AllByRecursion (λ k. n ≤ k) rest → Rising rest → AllByRecursion (λ k. n ≤ k) (map (λ c. n) cs ++ rest) × Rising (map (λ c. n) cs ++ rest)
rising_level n [] rest h r = (h, r)
rising_level n (c ∷ cs) rest h r = let ih = rising_level n cs rest h r in ((omega arith, ih.0), ih)

meetings_rise : (n : ℕ) (xs : List Met) → AllByRecursion (λ k. n ≤ k) (nodes_met (meetings n xs)) × Rising (nodes_met (meetings n xs))
meetings_rise n [] = (tt, tt)
meetings_rise n (x ∷ xs) =
    let cs = networks x.mask in
    let rest = meetings (n + 1) xs in
    let ih = meetings_rise (n + 1) xs in
    let e : nodes_met (meetings n (x ∷ xs)) ≡ map (λ c. n) cs ++ nodes_met rest =
    map-append (λ m. m.node) (map (meets n x) cs) rest ∙ ap (λ r. r ++ nodes_met rest) (map-map (λ m. m.node) (meets n x) cs) in
    subst (λ ks. AllByRecursion (λ k. n ≤ k) ks × Rising ks) (sym e) (rising_level n cs (nodes_met rest) (All-weaker _ _ (λ k h. omega arith) (nodes_met rest) ih.0) ih.1)

pub nodes_rise : (xs : List Met) → Rising (map (λ r. r.node) (rows_met xs))
nodes_rise xs =
    let ms = meetings 1 xs in
    subst Rising (ap nodes_met (sym (numbered_meetings [] ms)) ∙ map-map (λ m. m.node) meeting (rows_met xs)) (meetings_rise 1 xs).1

-- how many rows there are
meetings_length : (n : ℕ) (xs : List Met) → length (meetings n xs) ≡ set_bits (map (λ x. x.mask) xs)
meetings_length n [] = refl
meetings_length n (x ∷ xs) =
    length-append (map (meets n x) (networks x.mask)) (meetings (n + 1) xs)
    ∙ ap₂ ◌+◌ (length-map (networks x.mask) (meets n x)) (meetings_length (n + 1) xs)

pub rows_length : (xs : List Met) → length (rows_met xs) ≡ set_bits (map (λ x. x.mask) xs)
rows_length xs = sym (length-map (rows_met xs) meeting) ∙ ap length (numbered_meetings [] (meetings 1 xs)) ∙ meetings_length 1 xs
