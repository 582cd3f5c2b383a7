-- The position that the rows of a line give to a node is the node's own. Assumes nothing.
use Rattle.std.proofs.Common.{◌≡◌, ℕ, suc, ◌+◌, ◌≤◌, min, max, eqb, ◌⊎◌, List, [], ◌∷◌, ◌++◌, map, reverse, length, filter, sym, ap, ◌∙◌, subst, inl, inr, ⊎_elim, arith}
use mathlib.Core.List.{reverse-cons}
use Rattle.std.proofs.lemmas.List.{length-map, length-reverse}
use Rattle.std.proofs.lemmas.Bool.{eqb-true, eq-eqb}
use Rattle.train.specs.Line.{Way, forward, turned, masks, Coupled, Line}
use Rattle.train.specs.Truth.{In, here, there}
use Rattle.train.specs.Rules.{Different, uuids, IsLine}
use Rattle.train.specs.Rows.{reading, counted, Met, nodes_in, met_in, met, placed_nodes, Row, rows}
use Rattle.train.specs.Theorems.{NumberedLine, PlacedLine}
use Rattle.train.proofs.Members.{not_in, in_cases, in_map, of_map, of_joined, of_kept, in_kept, of_reverse, all_in, counted_cases, counted_in, length_counted, some_count}
use Rattle.train.proofs.Places.{node_at, met_of, met_of_consist, place}
use Rattle.train.proofs.Reading.{reading_is_line}
use Rattle.directory.specs.Asked.{lowest, highest, nodes_of, position, position_in}
use Rattle.directory.proofs.Climbs.{highest_above}
use Rattle.directory.proofs.Searches.{lowest_below}

-- numbered elements of two lists, and of a mapped one
counted_append :
    {A : Type 0} (n k : ℕ) (x : A) (xs ys : List A) → In (k, x) (counted n (xs ++ ys)) → In (k, x) (counted n xs) ⊎ In (k, x) (counted (n + length xs) ys)
counted_append n k x [] ys i = let e : n ≡ n + 0 = omega arith in inr (subst (λ m. In (k, x) (counted m ys)) e i)
counted_append n k x (y ∷ xs) ys i =
    let e : n + 1 + length xs ≡ n + suc (length xs) = omega arith in
    ⊎_elim (λ f. inl (subst (λ p. In p (counted n (y ∷ xs))) (sym f) here))
    (λ j.
    ⊎_elim (λ a. inl (there a)) (λ b. inr (subst (λ m. In (k, x) (counted m ys)) e b)) (counted_append (n + 1) k x xs ys j))
    (in_cases (k, x) (n, y) (counted (n + 1) (xs ++ ys)) i)

pub counted_map :
    {A B : Type 0} (f : A → B) (n k : ℕ) (y : B) (xs : List A) → In (k, y) (counted n (map f xs)) → (x : A) × In (k, x) (counted n xs) × (y ≡ f x)
counted_map f n k y [] i = absurd (not_in (k, y) i)
counted_map f n k y (x ∷ xs) i =
    ⊎_elim (λ e. (x, subst (λ m. In (m, x) (counted n (x ∷ xs))) (sym e.0) here, e.1))
    (λ j. let r = counted_map f (n + 1) k y xs j in (r.0, there r.1, r.2))
    (counted_cases n k y (f x) (map f xs) i)

pub map_counted : {A B : Type 0} (f : A → B) (n k : ℕ) (x : A) (xs : List A) → In (k, x) (counted n xs) → In (k, f x) (counted n (map f xs))
map_counted f n k x [] i = absurd (not_in (k, x) i)
map_counted f n k x (y ∷ xs) i =
    ⊎_elim (λ e. subst (λ p. In p (counted n (f y ∷ map f xs))) (λ t. (sym e.0 t, f (sym e.1 t))) here) (λ j. there (map_counted f (n + 1) k x xs j))
    (counted_cases n k x y xs i)

-- Two nodes of a consist, number j at position p and number k at position q: numbers rise with positions, or fall if it is turned.
abbrev Offset : Way → ℕ → ℕ → ℕ → ℕ → Type 0
Offset forward j p k q = j + q ≡ k + p
Offset turned j p k q = j + p ≡ k + q

up : (u : ℕ) (w : Way) (n m k : ℕ) (x : Met) (ms : List ℕ) → In (k, x) (counted n (map (node_at u w) (counted m ms))) → k + m ≡ n + x.position
up u w n m k x [] i = absurd (not_in (k, x) i)
up u w n m k x (a ∷ ms) i =
    ⊎_elim (λ e. omega (arith, e.0, ap (λ q. q.position) e.1)) (λ j. omega (arith, up u w (n + 1) (m + 1) k x ms j))
    (counted_cases n k x (node_at u w (m, a)) (map (node_at u w) (counted (m + 1) ms)) i)

down :
    (u : ℕ) (w : Way) (n m k : ℕ) (x : Met) (ms : List ℕ) → In (k, x) (counted n (reverse (map (node_at u w) (counted m ms))))
    → k + x.position + 1 ≡ n + m + length ms
down u w n m k x [] i = absurd (not_in (k, x) i)
down u w n m k x (a ∷ ms) i =
    let rest = map (node_at u w) (counted (m + 1) ms) in
    let long : length (reverse rest) ≡ length ms = length-reverse rest ∙ length-map (counted (m + 1) ms) (node_at u w) ∙ length_counted (m + 1) ms in
    ⊎_elim (λ j. omega (arith, down u w n (m + 1) k x ms j))
    (λ j.
    ⊎_elim (λ e. omega (arith, e.0, ap (λ q. q.position) e.1, long)) (λ none. absurd (not_in (k, x) none))
    (counted_cases (n + length (reverse rest)) k x (node_at u w (m, a)) [] j))
    (counted_append n k x (reverse rest) (node_at u w (m, a) ∷ [])
    (subst (λ r. In (k, x) (counted n r)) (reverse-cons (node_at u w (m, a)) rest) i))

in_consist :
    (u : ℕ) (ms : List ℕ) (w : Way) (n j k : ℕ) (x y : Met) → In (j, x) (counted n (met_in u ms w)) → In (k, y) (counted n (met_in u ms w))
    → Offset w j x.position k y.position
in_consist u ms forward n j k x y a b = omega (arith, up u forward n 1 j x ms a, up u forward n 1 k y ms b)
in_consist u ms turned n j k x y a b = omega (arith, down u turned n 1 j x ms a, down u turned n 1 k y ms b)

way_in : (u : ℕ) (ms : List ℕ) (w : Way) (x : Met) → In x (met_in u ms w) → x.way ≡ w
way_in u ms forward x i = ap (λ q. q.way) (of_map (node_at u forward) x (counted 1 ms) i).2
way_in u ms turned x i = ap (λ q. q.way) (of_map (node_at u turned) x (counted 1 ms) (of_reverse x (nodes_in u ms turned) i)).2

-- a consist and the consists behind it have no node with one UUID
apart : (s : Coupled) (l : Line) (x y : Met) → Different (uuids (s ∷ l)) → In x (met_of s) → In y (met l) → x.uuid ≡ y.uuid → ⊥
apart s l x y d i j e =
    let t = of_joined met_of y l j in
    let mine = (met_of_consist s.consist.uuid (masks s.consist) s.way x i).0 in
    let theirs = (met_of_consist t.0.consist.uuid (masks t.0.consist) t.0.way y t.2).0 in
    all_in (λ v. s.consist.uuid ≡ v → ⊥) t.0.consist.uuid (uuids l) (in_map (λ c. c.consist.uuid) t.0 l t.1) d.0 (sym mine ∙ e ∙ theirs)

in_line :
    (l : Line) (n j k : ℕ) (x y : Met) → Different (uuids l) → In (j, x) (counted n (met l)) → In (k, y) (counted n (met l)) → x.uuid ≡ y.uuid
    → Offset x.way j x.position k y.position
in_line [] n j k x y d a b e = absurd (not_in (j, x) a)
in_line (s ∷ l) n j k x y d a b e =
    go (counted_append n j x (met_of s) (met l) a) (counted_append n k y (met_of s) (met l) b)
    (λ f g. in_line l (n + length (met_of s)) j k x y d.1 f g e)
  where
    go : In (j, x) (counted n (met_of s)) ⊎ In (j, x) (counted (n + length (met_of s)) (met l))
        → In (k, y) (counted n (met_of s)) ⊎ In (k, y) (counted (n + length (met_of s)) (met l))
        → (In (j, x) (counted (n + length (met_of s)) (met l)) → In (k, y) (counted (n + length (met_of s)) (met l)) → Offset x.way j x.position k y.position)
        → Offset x.way j x.position k y.position
    go (inl f) (inl g) behind =
        let u = s.consist.uuid in
        let ms = masks s.consist in
        subst (λ w. Offset w j x.position k y.position) (sym (way_in u ms s.way x (counted_in n j x (met_of s) f)))
        (in_consist u ms s.way n j k x y f g)
    go (inl f) (inr g) behind = absurd (apart s l x y d (counted_in n j x (met_of s) f) (counted_in (n + length (met_of s)) k y (met l) g) e)
    go (inr f) (inl g) behind = absurd (apart s l y x d (counted_in n k y (met_of s) g) (counted_in (n + length (met_of s)) j x (met l) f) (sym e))
    go (inr f) (inr g) behind = behind f g

-- The lowest and the highest of a list.
low_above : (b m : ℕ) (xs : List ℕ) → m ≤ b → ((v : ℕ) → In v xs → m ≤ v) → m ≤ lowest b xs
low_above b m [] h all = h
low_above b m (x ∷ xs) h all = low_above (min b x) m xs (omega (arith, all x here)) (λ v i. all v (there i))

low_below : (b m : ℕ) (xs : List ℕ) → In m xs → lowest b xs ≤ m
low_below b m [] i = absurd (not_in m i)
low_below b m (x ∷ xs) here = omega (arith, lowest_below (min b m) xs)
low_below b m (x ∷ xs) (there i) = low_below (min b x) m xs i

high_below : (b m : ℕ) (xs : List ℕ) → b ≤ m → ((v : ℕ) → In v xs → v ≤ m) → highest b xs ≤ m
high_below b m [] h all = h
high_below b m (x ∷ xs) h all = high_below (max b x) m xs (omega (arith, all x here)) (λ v i. all v (there i))

high_above : (b m : ℕ) (xs : List ℕ) → In m xs → m ≤ highest b xs
high_above b m [] i = absurd (not_in m i)
high_above b m (x ∷ xs) here = omega (arith, highest_above (max b m) xs)
high_above b m (x ∷ xs) (there i) = high_above (max b x) m xs i

-- node n at position p, in a consist whose numbers are ns, with number m at position 1
position_by :
    (w : Way) (n p m : ℕ) (ns : List ℕ) → In m ns → 1 ≤ p → Offset w n p m 1 → ((v : ℕ) → In v ns → (q : ℕ) × (1 ≤ q) × Offset w n p v q)
    → position w n (lowest n ns) (highest n ns) ≡ p
position_by forward n p m ns i one o all =
    let above = low_above n m ns (omega arith) (λ v j. let a = all v j in omega (arith, a.1, a.2)) in
    let below = low_below n m ns i in
    omega arith
position_by turned n p m ns i one o all =
    let below = high_below n m ns (omega arith) (λ v j. let a = all v j in omega (arith, a.1, a.2)) in
    let above = high_above n m ns i in
    omega arith

in_numbers : (u : ℕ) (r : Row) (rs : List Row) → In r rs → r.uuid ≡ u → In r.node (nodes_of u rs)
in_numbers u r rs i e = in_map (λ q. q.node) r (filter (λ q. eqb q.uuid u) rs) (in_kept (λ q. eqb q.uuid u) r rs i (eq-eqb r.uuid u e))

-- In the rows of a line.
module _ (l : Line) (is : IsLine l) (numbers : NumberedLine l) (places : PlacedLine l) where
  is_placed : (k : ℕ) (x : Met) → In (k, x) (counted 1 (met (reading l))) → In (x.uuid, x.position) (placed_nodes l)
  is_placed k x i = in_map place x (met (reading l)) (counted_in 1 k x (met (reading l)) i)

  offset :
      (j k : ℕ) (x y : Met) → In (j, x) (counted 1 (met (reading l))) → In (k, y) (counted 1 (met (reading l))) → x.uuid ≡ y.uuid
      → Offset x.way j x.position k y.position
  offset j k x y a b e = in_line (reading l) 1 j k x y (reading_is_line l is).own_uuids a b e

  -- the row of a node gives its position
  pub position_own : (r : Row) (x : Met) → In r (rows l) → In (r.node, x) (counted 1 (met (reading l))) → r.uuid ≡ x.uuid → r.way ≡ x.way
      → position_in (rows l) r ≡ x.position
  position_own r x i j eu ew =
      let c = places.of_consist x.uuid x.position (is_placed r.node x j) in
      let first = of_map place (c.0.consist.uuid, 1) (met (reading l)) (places.placed c.0 1 c.1 (omega arith) (omega (arith, c.3, c.4))) in
      let z = first.0 in
      let count = some_count z 1 (met (reading l)) first.1 in
      let row = numbers.node_row count.0 z count.1 in
      let zu : z.uuid ≡ x.uuid = sym (ap (λ q. q.0) first.2) ∙ sym c.2 in
      let zp : z.position ≡ 1 = sym (ap (λ q. q.1) first.2) in
      let m_in : In count.0 (nodes_of r.uuid (rows l)) =
      subst (λ n. In n (nodes_of r.uuid (rows l))) row.2 (in_numbers r.uuid row.0 (rows l) row.1 (row.3 ∙ zu ∙ sym eu)) in
      let from_first : Offset x.way r.node x.position count.0 1 =
      subst (λ q. Offset x.way r.node x.position count.0 q) zp (offset r.node count.0 x z j count.1 (sym zu)) in
      ap (λ w. position w r.node (lowest r.node (nodes_of r.uuid (rows l))) (highest r.node (nodes_of r.uuid (rows l)))) ew
      ∙ position_by x.way r.node x.position count.0 (nodes_of r.uuid (rows l)) m_in c.3 from_first (λ v h.
      let a = of_map (λ (q : Row). q.node) v (filter (λ q. eqb q.uuid r.uuid) (rows l)) h in
      let k = of_kept (λ q. eqb q.uuid r.uuid) a.0 (rows l) a.1 in
      let y = numbers.row_node a.0 k.0 in
      let yu : x.uuid ≡ y.0.uuid = sym eu ∙ sym (eqb-true a.0.uuid r.uuid k.1) ∙ y.3 in
      let o = offset r.node a.0.node x y.0 j y.1 yu in (
        y.0.position,
        (places.of_consist y.0.uuid y.0.position (is_placed a.0.node y.0 y.1)).3,
        subst (λ n. Offset x.way r.node x.position n y.0.position) (sym a.2) o,
      ))
