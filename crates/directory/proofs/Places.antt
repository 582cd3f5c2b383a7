-- The place of each node of a line stands in its rows. Assumes nothing.
use Rattle.std.proofs.Common.{◌≡◌, ℕ, suc, ◌+◌, ◌≤◌, true, eqb, ltb, ◌⊎◌, List, [], ◌∷◌, ◌++◌, map, reverse, length, take, Some, None, filter, Option, sym, refl, ap, ◌∙◌, subst, ⊎_elim, arith}
use mathlib.Core.List.{reverse_aux, reverse-cons}
use Rattle.std.specs.List.{AllByRecursion}
use Rattle.std.proofs.lemmas.List.{length-reverse, take_all}
use Rattle.std.proofs.lemmas.Bool.{cond_both, eqb-true, eq-eqb}
use Rattle.train.specs.Line.{Way, forward, turned, masks, Coupled, Line, turn, flip}
use Rattle.train.specs.Truth.{In, here, there}
use Rattle.train.specs.Rules.{Different, uuids, IsLine, networks}
use Rattle.train.specs.Rows.{left, reading, counted, Met, met_in, met, Meeting, meetings, Row, row, given, numbered, rows}
use Rattle.directory.specs.Meaning.{meeting}
use Rattle.directory.specs.Asked.{lowest, highest, nodes_of, position, position_in, place_of}
use Rattle.directory.specs.Lookups.{Lookups}
use Rattle.directory.proofs.Subnets.{numbered_some, numbered_none}
use Rattle.directory.proofs.Networks.{in_networks}
use Rattle.directory.proofs.Members.{in_cases, in_single, in_append, in_left, in_right, in_map, into_map, first_in, first_some, all_in}
use Rattle.directory.proofs.NodesUndo.{comes_of, lowest_le, lowest_is, highest_ge, highest_is, in_nodes, of_node, place_found, nodes_undo}
use Rattle.directory.proofs.Readings.{of_consist, mask_range, line_undo, line_rows}
use Rattle.directory.proofs.NetworksUndo.{networks_undo}

-- Numbered lists.
counted_append : {A : Type 0} (n : ℕ) (xs ys : List A) → counted n (xs ++ ys) ≡ counted n xs ++ counted (n + length xs) ys
counted_append n [] ys = ap (λ k. counted k ys) (let e : n ≡ n + 0 = omega arith in e)
counted_append n (x ∷ xs) ys =
    ap (λ zs. (n, x) ∷ zs)
    (counted_append (n + 1) xs ys ∙ ap (λ k. counted (n + 1) xs ++ counted k ys) (let e : n + 1 + length xs ≡ n + suc (length xs) = omega arith in e))

counted_low : {A : Type 0} (n k : ℕ) (x : A) (xs : List A) → In (k, x) (counted n xs) → n ≤ k
counted_low n k x [] i = elim i [ ]
counted_low n k x (y ∷ xs) here = omega arith
counted_low n k x (y ∷ xs) (there i) = omega (arith, counted_low (n + 1) k x xs i)

counted_one : {A : Type 0} (n k j : ℕ) (x y : A) (xs : List A) → In (k, x) (counted n xs) → In (j, y) (counted n xs) → k ≡ j → x ≡ y
counted_one n k j x y [] i h e = elim i [ ]
counted_one n k j x y (z ∷ xs) here here e = refl
counted_one n k j x y (z ∷ xs) here (there h) e = absurd (let f : ⊥ = omega (arith, counted_low (n + 1) j y xs h) in f)
counted_one n k j x y (z ∷ xs) (there i) here e = absurd (let f : ⊥ = omega (arith, counted_low (n + 1) k x xs i) in f)
counted_one n k j x y (z ∷ xs) (there i) (there h) e = counted_one (n + 1) k j x y xs i h e

counted_in : {A : Type 0} (n k : ℕ) (x : A) (xs : List A) → In (k, x) (counted n xs) → In x xs
counted_in n k x [] i = elim i [ ]
counted_in n k x (y ∷ xs) here = here
counted_in n k x (y ∷ xs) (there i) = there (counted_in (n + 1) k x xs i)

-- UUIDs differ in the reading too.
different_aux :
    (xs r : List ℕ) → Different xs → Different r → ((x y : ℕ) → In x xs → In y r → x ≡ y → ⊥) → Different (reverse_aux xs r)
different_aux [] r d e apart = e
different_aux (x ∷ xs) r d e apart =
    different_aux xs (x ∷ r) d.1 (all_apart r (λ y i. apart x y here i), e)
    (λ a b i j. new a b i j)
  where
    all_apart : (ys : List ℕ) → ((y : ℕ) → In y ys → x ≡ y → ⊥) → AllByRecursion (λ y. x ≡ y → ⊥) ys
    all_apart [] h = tt
    all_apart (y ∷ ys) h = (h y here, all_apart ys (λ z i. h z (there i)))

    new : (a b : ℕ) → In a xs → In b (x ∷ r) → a ≡ b → ⊥
    new a b i here f = all_in (λ y. x ≡ y → ⊥) a xs d.0 i (sym f)
    new a b i (there j) f = apart a b (there i) j f

map_aux : {A B : Type 0} (f : A → B) (xs r : List A) → map f (reverse_aux xs r) ≡ reverse_aux (map f xs) (map f r)
map_aux f [] r = refl
map_aux f (x ∷ xs) r = map_aux f xs (x ∷ r)

uuids_turn : (l : Line) → uuids (map turn l) ≡ uuids l
uuids_turn [] = refl
uuids_turn (s ∷ l) = ap (λ us. s.consist.uuid ∷ us) (uuids_turn l)

different_flip : (l : Line) → Different (uuids l) → Different (uuids (flip l))
different_flip l d =
    subst Different (sym (map_aux (λ (s : Coupled). s.consist.uuid) (map turn l) [] ∙ ap (λ us. reverse_aux us []) (uuids_turn l)))
    (different_aux (uuids l) [] d tt (λ x y i j _. elim j [ ]))

different_reading : (l : Line) → Different (uuids l) → Different (uuids (reading l))
different_reading [] d = d
different_reading (s ∷ []) d = (tt, tt)
different_reading (s ∷ t ∷ l) d =
    let k = s ∷ t ∷ l in
    cond_both (ltb (left k) (left (flip k))) k (flip k) (λ j. Different (uuids j)) (λ _. d) (λ _. different_flip k d)

-- Numbers and positions of a consist's nodes: the numbers run up from end 1, or down.
abbrev Lined : Way → ℕ → ℕ → ℕ → ℕ → Type 0
Lined forward k p j q = k + q ≡ j + p
Lined turned k p j q = k + p ≡ j + q

abbrev node_at : ℕ → Way → ℕ × ℕ → Met
node_at u w n = record { uuid = u; position = n.0; mask = n.1; way = w }

module _ (u : ℕ) (w : Way) where
  up : (n p k : ℕ) (ms : List ℕ) (x : Met) → In (k, x) (counted n (map (node_at u w) (counted p ms))) → (k + p ≡ n + x.position) × (p ≤ x.position)
  up n p k [] x i = elim i [ ]
  up n p k (m ∷ ms) x here = (omega arith, omega arith)
  up n p k (m ∷ ms) x (there i) = let h = up (n + 1) (p + 1) k ms x i in (omega (arith, h.0), omega (arith, h.1))

  back : (p m : ℕ) (ms : List ℕ) → reverse (map (node_at u w) (counted p (m ∷ ms))) ≡ reverse (map (node_at u w) (counted (p + 1) ms)) ++ node_at u w (p, m) ∷ []
  back p m ms = reverse-cons (node_at u w (p, m)) (map (node_at u w) (counted (p + 1) ms))

  many : (p : ℕ) (ms : List ℕ) → length (map (node_at u w) (counted p ms)) ≡ length ms
  many p [] = refl
  many p (m ∷ ms) = ap suc (many (p + 1) ms)

  many_back : (p : ℕ) (ms : List ℕ) → length (reverse (map (node_at u w) (counted p ms))) ≡ length ms
  many_back p ms = length-reverse (map (node_at u w) (counted p ms)) ∙ many p ms

  down :
      (n p k : ℕ) (ms : List ℕ) (x : Met) → In (k, x) (counted n (reverse (map (node_at u w) (counted p ms))))
      → (k + x.position + 1 ≡ n + p + length ms) × (p ≤ x.position)
  down n p k [] x i = elim i [ ]
  down n p k (m ∷ ms) x i =
      let rest = reverse (map (node_at u w) (counted (p + 1) ms)) in
      let e = ap (λ ys. counted n ys) (back p m ms) ∙ counted_append n rest (node_at u w (p, m) ∷ []) in
      ⊎_elim
      (λ j. let h = down n (p + 1) k ms x j in (omega (arith, h.0), omega (arith, h.1)))
      (λ j.
      let f = in_single (k, x) (n + length rest, node_at u w (p, m)) j in
      let ek : k ≡ n + length rest = ap (λ z. z.0) f in
      let ep : x.position ≡ p = ap (λ z. z.1.position) f in
      (omega (arith, many_back (p + 1) ms), omega arith))
      (in_append (k, x) (counted n rest) (counted (n + length rest) (node_at u w (p, m) ∷ [])) (subst (λ ys. In (k, x) ys) e i))

-- The nodes of one consist, met from number n on.
record Block (n : ℕ) (ys : List Met) (u : ℕ) (w : Way) : Type 0 where
  lined : (k j : ℕ) (x y : Met) → In (k, x) (counted n ys) → In (j, y) (counted n ys) → Lined w k x.position j y.position
  first : (k : ℕ) (x : Met) → In (k, x) (counted n ys) → (j : ℕ) × (y : Met) × In (j, y) (counted n ys) × (y.uuid ≡ u) × (y.position ≡ 1)
  above : (k : ℕ) (x : Met) → In (k, x) (counted n ys) → 1 ≤ x.position

block : (n u : ℕ) (ms : List ℕ) (w : Way) → Block n (met_in u ms w) u w
block n u ms forward = record {
  lined = λ k j x y i h. omega (arith, (up u forward n 1 k ms x i).0, (up u forward n 1 j ms y h).0);
  first = λ k x i. start ms i;
  above = λ k x i. (up u forward n 1 k ms x i).1;
}
  where
    start :
        {k : ℕ} {x : Met} (ms : List ℕ) → In (k, x) (counted n (met_in u ms forward))
        → (j : ℕ) × (y : Met) × In (j, y) (counted n (met_in u ms forward)) × (y.uuid ≡ u) × (y.position ≡ 1)
    start [] i = elim i [ ]
    start (m ∷ ms) i = (n, node_at u forward (1, m), here, refl, refl)
block n u ms turned = record {
  lined = λ k j x y i h. omega (arith, (down u turned n 1 k ms x i).0, (down u turned n 1 j ms y h).0);
  first = λ k x i. start ms i;
  above = λ k x i. (down u turned n 1 k ms x i).1;
}
  where
    start :
        {k : ℕ} {x : Met} (ms : List ℕ) → In (k, x) (counted n (met_in u ms turned))
        → (j : ℕ) × (y : Met) × In (j, y) (counted n (met_in u ms turned)) × (y.uuid ≡ u) × (y.position ≡ 1)
    start [] i = elim i [ ]
    start (m ∷ ms) i =
        let rest = reverse (map (node_at u turned) (counted (1 + 1) ms)) in
        let e = ap (λ ys. counted n ys) (back u turned 1 m ms) ∙ counted_append n rest (node_at u turned (1, m) ∷ []) in (
          n + length rest,
          node_at u turned (1, m),
          subst (λ ys. In (n + length rest, node_at u turned (1, m)) ys) (sym e) (in_right (n + length rest, node_at u turned (1, m)) (counted n rest) (counted (n + length rest) (node_at u turned (1, m) ∷ [])) here),
          refl,
          refl,
        )

-- All nodes of a line, met from number n on.
record Blocks (n : ℕ) (ys : List Met) : Type 0 where
  lined : (k j : ℕ) (x y : Met) → In (k, x) (counted n ys) → In (j, y) (counted n ys) → x.uuid ≡ y.uuid → Lined x.way k x.position j y.position
  first : (k : ℕ) (x : Met) → In (k, x) (counted n ys) → (j : ℕ) × (y : Met) × In (j, y) (counted n ys) × (y.uuid ≡ x.uuid) × (y.position ≡ 1)
  above : (k : ℕ) (x : Met) → In (k, x) (counted n ys) → 1 ≤ x.position

in_line : (l : Line) (x : Met) → In x (met l) → In x.uuid (uuids l)
in_line [] x i = elim i [ ]
in_line (s ∷ l) x i =
    ⊎_elim (λ j. subst (λ u. In u (uuids (s ∷ l))) (sym (of_consist s.consist.uuid (masks s.consist) s.way x j).0) here)
    (λ j. there (in_line l x j))
    (in_append x (met_in s.consist.uuid (masks s.consist) s.way) (met l) i)

blocks : (n : ℕ) (l : Line) → Different (uuids l) → Blocks n (met l)
blocks n [] d = record { lined = λ k j x y i h e. elim i [ ]; first = λ k x i. elim i [ ]; above = λ k x i. elim i [ ] }
blocks n (s ∷ l) d =
    let u = s.consist.uuid in
    let ys = met_in u (masks s.consist) s.way in
    let c = n + length ys in
    let e = counted_append n ys (met l) in
    let b = block n u (masks s.consist) s.way in
    let r = blocks c l d.1 in
    let split : (k : ℕ) (x : Met) → In (k, x) (counted n (met (s ∷ l))) → In (k, x) (counted n ys) ⊎ In (k, x) (counted c (met l)) =
    λ k x i. in_append (k, x) (counted n ys) (counted c (met l)) (subst (λ zs. In (k, x) zs) e i)
    in
    let of : (k : ℕ) (x : Met) → In (k, x) (counted n ys) → (x.uuid ≡ u) × (x.way ≡ s.way) =
    λ k x i. (let p = of_consist u (masks s.consist) s.way x (counted_in n k x ys i) in (p.0, p.1))
    in
    let other : (k : ℕ) (x : Met) → In (k, x) (counted c (met l)) → u ≡ x.uuid → ⊥ =
    λ k x i. all_in (λ v. u ≡ v → ⊥) x.uuid (uuids l) d.0 (in_line l x (counted_in c k x (met l) i))
    in
    record {
      lined =
          λ k j x y i h same.
          ⊎_elim
          (λ a.
          ⊎_elim (λ g. subst (λ w. Lined w k x.position j y.position) (sym (of k x a).1) (b.lined k j x y a g))
          (λ g. absurd (other j y g (sym (of k x a).0 ∙ same))) (split j y h))
          (λ a.
          ⊎_elim (λ g. absurd (other k x a (sym (of j y g).0 ∙ sym same))) (λ g. r.lined k j x y a g same) (split j y h))
          (split k x i);
      first =
          λ k x i.
          ⊎_elim
          (λ a.
          let f = b.first k x a in
          (f.0, f.1, subst (λ zs. In (f.0, f.1) zs) (sym e) (in_left (f.0, f.1) (counted n ys) (counted c (met l)) f.2), f.3 ∙ sym (of k x a).0, f.4))
          (λ a.
          let f = r.first k x a in
          (f.0, f.1, subst (λ zs. In (f.0, f.1) zs) (sym e) (in_right (f.0, f.1) (counted n ys) (counted c (met l)) f.2), f.3, f.4))
          (split k x i);
      above = λ k x i. ⊎_elim (λ a. b.above k x a) (λ a. r.above k x a) (split k x i);
    }

-- Rows and numbered nodes.
meeting_of : (n : ℕ) (xs : List Met) (m : Meeting) → In m (meetings n xs) → (x : Met) × In (m.node, x) (counted n xs) × (m.uuid ≡ x.uuid) × (m.way ≡ x.way)
meeting_of n [] m i = elim i [ ]
meeting_of n (x ∷ xs) m i =
    ⊎_elim
    (λ j. let p = of_node x n (networks x.mask) m j in (x, subst (λ k. In (k, x) (counted n (x ∷ xs))) (sym p.1) here, p.0, p.2))
    (λ j. let p = meeting_of (n + 1) xs m j in (p.0, there p.1, p.2, p.3))
    (in_append m (map (meeting x n) (networks x.mask)) (meetings (n + 1) xs) i)

-- a node that serves a network meets it
meets : (n k : ℕ) (xs : List Met) (x : Met) (c : ℕ) → In (k, x) (counted n xs) → In c (networks x.mask) → In (meeting x k c) (meetings n xs)
meets n k [] x c i h = elim i [ ]
meets n k (y ∷ xs) x c here h = in_left (meeting x k c) (map (meeting x k) (networks x.mask)) (meetings (n + 1) xs) (into_map (meeting x k) c (networks x.mask) h)
meets n k (y ∷ xs) x c (there i) h =
    in_right (meeting x k c) (map (meeting y n) (networks y.mask)) (meetings (n + 1) xs) (meets (n + 1) k xs x c i h)

record Gives (m : Meeting) (rs : List Row) : Type 0 where
  given_row : Row
  is_in : In given_row rs
  uuid : given_row.uuid ≡ m.uuid
  node : given_row.node ≡ m.node

gives_there : (m : Meeting) (q : Row) (rs : List Row) → Gives m rs → Gives m (q ∷ rs)
gives_there m q rs g = record { given_row = g.given_row; is_in = there g.is_in; uuid = g.uuid; node = g.node }

gives_at :
    (firsts : List Row) (k : Meeting) (ms : List Meeting) (m : Meeting) (rest : In m ms → (qs : List Row) → Gives m (numbered qs ms))
    (o : Option ℕ) → given k.uuid k.cn firsts ≡ o → In m (k ∷ ms) → Gives m (numbered firsts (k ∷ ms))
gives_at firsts k ms m rest (Some s) e here =
    rw (numbered_some firsts k ms s e) record { given_row = row k s; is_in = here; uuid = refl; node = refl }
gives_at firsts k ms m rest (Some s) e (there i) = rw (numbered_some firsts k ms s e) (gives_there m (row k s) (numbered firsts ms) (rest i firsts))
gives_at firsts k ms m rest None e here =
    rw (numbered_none firsts k ms e) record { given_row = row k (length firsts + 1); is_in = here; uuid = refl; node = refl }
gives_at firsts k ms m rest None e (there i) =
    let q = row k (length firsts + 1) in
    rw (numbered_none firsts k ms e) (gives_there m q (numbered (q ∷ firsts) ms) (rest i (q ∷ firsts)))

gives : (firsts : List Row) (ms : List Meeting) (m : Meeting) → In m ms → Gives m (numbered firsts ms)
gives firsts [] m i = elim i [ ]
gives firsts (k ∷ ms) m i = gives_at firsts k ms m (λ j qs. gives qs ms m j) (given k.uuid k.cn firsts) refl i

of_kept : (u : ℕ) (rs : List Row) (r : Row) → In r (filter (λ r. eqb r.uuid u) rs) → In r rs × (eqb r.uuid u ≡ true)
of_kept u [] r i = elim i [ ]
of_kept u (q ∷ rs) r i =
    let rest = filter (λ r. eqb r.uuid u) rs in
    let later : In r rest → In r (q ∷ rs) × (eqb r.uuid u ≡ true) = λ j. (let h = of_kept u rs r j in (there h.0, h.1)) in
    cond_both (eqb q.uuid u) (q ∷ rest) rest (λ ys. In r ys → In r (q ∷ rs) × (eqb r.uuid u ≡ true))
    (λ on j.
    ⊎_elim (λ e. (subst (λ z. In z (q ∷ rs)) (sym e) here, ap (λ z. eqb z.uuid u) e ∙ on)) later (in_cases r q rest j))
    (λ _ j. later j) i

of_nodes_of : (u n : ℕ) (rs : List Row) → In n (nodes_of u rs) → (r : Row) × In r rs × (r.uuid ≡ u) × (r.node ≡ n)
of_nodes_of u n rs i =
    let p = in_map (λ (r : Row). r.node) n (filter (λ r. eqb r.uuid u) rs) i in
    let k = of_kept u rs p.0 p.1 in
    (p.0, k.0, eqb-true p.0.uuid u k.1, sym p.2)

-- the position that the lowest or the highest number gives
spot :
    (w : Way) (k p j : ℕ) (ns : List ℕ) → In j ns → Lined w k p j 1 → 1 ≤ p → ((n : ℕ) → In n ns → (q : ℕ) × (1 ≤ q) × Lined w k p n q)
    → position w k (lowest k ns) (highest k ns) ≡ p
spot forward k p j ns i at some each =
    let least : j ≤ lowest k ns =
    ⊎_elim (λ e. omega (arith, e))
    (λ h. let r = each (lowest k ns) h in omega (arith, r.1, r.2)) (lowest_is k ns)
    in
    omega (arith, lowest_le k j ns i)
spot turned k p j ns i at some each =
    let most : highest k ns ≤ j =
    ⊎_elim (λ e. omega (arith, e))
    (λ h. let r = each (highest k ns) h in omega (arith, r.1, r.2)) (highest_is k ns)
    in
    omega (arith, highest_ge k j ns i)

module _ (l : Line) (is : IsLine l) where
  -- a row for each node, and a node for each row
  row_of : (k : ℕ) (x : Met) → In (k, x) (counted 1 (met (reading l))) → (r : Row) × In r (rows l) × (r.uuid ≡ x.uuid) × (r.node ≡ k)
  row_of k x i =
      let m = mask_range l is x (counted_in 1 k x (met (reading l)) i) in
      let c = in_networks x.mask (omega (arith, m.1)) (λ z. let f : ⊥ = omega (arith, m.0) in f) in
      let g = gives [] (meetings 1 (met (reading l))) (meeting x k c.0) (meets 1 k (met (reading l)) x c.0 i c.1) in
      (g.given_row, g.is_in, g.uuid, g.node)

  node_of : (r : Row) → In r (rows l) → (x : Met) × In (r.node, x) (counted 1 (met (reading l))) × (r.uuid ≡ x.uuid) × (r.way ≡ x.way)
  node_of r i =
      let c = comes_of [] (meetings 1 (met (reading l))) r i in
      let m = meeting_of 1 (met (reading l)) c.meeting c.is_in in
      (m.0, subst (λ k. In (k, m.0) (counted 1 (met (reading l)))) (sym c.node) m.1, c.uuid ∙ m.2, c.way ∙ m.3)

  position_true :
      (r : Row) (x : Met) → In (r.node, x) (counted 1 (met (reading l))) → r.uuid ≡ x.uuid → r.way ≡ x.way
      → position_in (rows l) r ≡ x.position
  position_true r x i eu ew =
      let b = blocks 1 (reading l) (different_reading l is.own_uuids) in
      let k = r.node in
      let ns = nodes_of r.uuid (rows l) in
      let f = b.first k x i in
      let q = row_of f.0 f.1 f.2 in
      let in_ns : In f.0 ns = subst (λ n. In n ns) q.3 (in_nodes q.0 r.uuid (rows l) q.1 (q.2 ∙ f.3 ∙ sym eu)) in
      let one : Lined x.way k x.position f.0 1 =
      subst (λ p. Lined x.way k x.position f.0 p) f.4 (b.lined k f.0 x f.1 i f.2 (sym f.3))
      in
      let each : (n : ℕ) → In n ns → (p : ℕ) × (1 ≤ p) × Lined x.way k x.position n p =
      λ n h.
      let t = of_nodes_of r.uuid n (rows l) h in
      let y = node_of t.0 t.1 in
      let j : In (n, y.0) (counted 1 (met (reading l))) = subst (λ m. In (m, y.0) (counted 1 (met (reading l)))) t.3 y.1 in
      (y.0.position, b.above n y.0 j, b.lined k n x y.0 i j (sym eu ∙ sym t.2 ∙ y.2))
      in
      ap (λ w. position w k (lowest k ns) (highest k ns)) ew ∙ spot x.way k x.position f.0 ns in_ns one (b.above k x i) each

  -- node k of the reading is found at its place
  pub line_places :
      length (rows l) ≤ 128 → (k : ℕ) (x : Met) → In (k, x) (counted 1 (met (reading l)))
      → place_of k (take 128 (rows l)) ≡ Some (x.uuid, x.position)
  line_places few k x i =
      let p = λ (r : Row). eqb r.node k in
      let q = row_of k x i in
      let f = first_some p (rows l) q.0 q.1 (eq-eqb q.0.node k q.3) in
      let r = f.0 in
      let h = first_in p (rows l) r f.1 in
      let en = eqb-true r.node k h.1 in
      let y = node_of r h.0 in
      let same : y.0 ≡ x = counted_one 1 r.node k y.0 x (met (reading l)) y.1 i en in
      let eu : r.uuid ≡ x.uuid = y.2 ∙ ap (λ z. z.uuid) same in
      let ew : r.way ≡ x.way = y.3 ∙ ap (λ z. z.way) same in
      let ep = position_true r x (subst (λ n. In (n, x) (counted 1 (met (reading l)))) (sym en) i) eu ew in
      ap (λ rs. place_of k rs) (take_all 128 (rows l) few) ∙ place_found k x.uuid x.position (rows l) r f.1 eu ep

pub lookups : Lookups
lookups = record { networks = networks_undo; nodes = nodes_undo; line = line_undo; line_rows = line_rows; line_places = line_places }
