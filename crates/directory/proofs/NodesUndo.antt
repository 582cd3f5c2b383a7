-- Node numbers and the places of nodes undo each other. Assumes nothing.
use Rattle.std.proofs.Common.{◌≡◌, ℕ, ◌+◌, ◌≤◌, min, max, true, false, cond, eqb, ◌⊎◌, List, [], ◌∷◌, map, length, take, Some, None, filter, Option, sym, refl, ap, ◌∙◌, subst, inl, inr, ⊎_elim, arith, find, option_map}
use Rattle.std.proofs.lemmas.Bool.{and_parts, and_from, eqb-true, eq-eqb, cond-true, cases_lt}
use Rattle.train.specs.Line.{Way, forward, turned}
use Rattle.train.specs.Truth.{In, here, there}
use Rattle.train.specs.Rules.{networks}
use Rattle.train.specs.Rows.{Met, Meeting, meetings, Row, row, given, numbered, rows_met}
use Rattle.directory.specs.Meaning.{meeting}
use Rattle.directory.specs.Asked.{lowest, highest, nodes_of, position, position_in, is_at, place_of}
use Rattle.directory.specs.Lookups.{OneWay, NodesUndo}
use Rattle.directory.proofs.Climbs.{highest_above}
use Rattle.directory.proofs.Subnets.{numbered_some, numbered_none}
use Rattle.directory.proofs.Searches.{lowest_below}
use Rattle.directory.proofs.Members.{in_append, in_take, carried_some, first_in, first_some}

-- Rows and the meetings that they come of.
pub record ComesOf (r : Row) (ms : List Meeting) : Type 0 where
  pub meeting : Meeting
  pub is_in : In meeting ms
  pub uuid : r.uuid ≡ meeting.uuid
  pub node : r.node ≡ meeting.node
  pub way : r.way ≡ meeting.way

comes_there : (r : Row) (m : Meeting) (ms : List Meeting) → ComesOf r ms → ComesOf r (m ∷ ms)
comes_there r m ms c = record { meeting = c.meeting; is_in = there c.is_in; uuid = c.uuid; node = c.node; way = c.way }

comes_here : (m : Meeting) (ms : List Meeting) (s : ℕ) → ComesOf (row m s) (m ∷ ms)
comes_here m ms s = record { meeting = m; is_in = here; uuid = refl; node = refl; way = refl }

comes_first :
    (r q : Row) (rs : List Row) (m : Meeting) (ms : List Meeting) (s : ℕ) → q ≡ row m s → In r (q ∷ rs) → (In r rs → ComesOf r ms)
    → ComesOf r (m ∷ ms)
comes_first r q rs m ms s e here rest = rw e (comes_here m ms s)
comes_first r q rs m ms s e (there i) rest = comes_there r m ms (rest i)

comes_at :
    (firsts : List Row) (m : Meeting) (ms : List Meeting) (r : Row) (rest : (qs : List Row) → In r (numbered qs ms) → ComesOf r ms)
    (o : Option ℕ) → given m.uuid m.cn firsts ≡ o → In r (numbered firsts (m ∷ ms)) → ComesOf r (m ∷ ms)
comes_at firsts m ms r rest (Some s) e i =
    comes_first r (row m s) (numbered firsts ms) m ms s refl (rw (numbered_some firsts m ms s e) at i) (rest firsts)
comes_at firsts m ms r rest None e i =
    let q = row m (length firsts + 1) in
    comes_first r q (numbered (q ∷ firsts) ms) m ms (length firsts + 1) refl (rw (numbered_none firsts m ms e) at i) (rest (q ∷ firsts))

pub comes_of : (firsts : List Row) (ms : List Meeting) (r : Row) → In r (numbered firsts ms) → ComesOf r ms
comes_of firsts [] r i = elim i [ ]
comes_of firsts (m ∷ ms) r i = comes_at firsts m ms r (λ qs j. comes_of qs ms r j) (given m.uuid m.cn firsts) refl i

-- Meetings and the nodes that they come of.
pub of_node : (x : Met) (n : ℕ) (cs : List ℕ) (m : Meeting) → In m (map (meeting x n) cs) → (m.uuid ≡ x.uuid) × (m.node ≡ n) × (m.way ≡ x.way)
of_node x n [] m i = elim i [ ]
of_node x n (c ∷ cs) m here = (refl, refl, refl)
of_node x n (c ∷ cs) m (there i) = of_node x n cs m i

pub met_of : (n : ℕ) (xs : List Met) (m : Meeting) → In m (meetings n xs) → (x : Met) × In x xs × (m.uuid ≡ x.uuid) × (m.way ≡ x.way)
met_of n [] m i = elim i [ ]
met_of n (x ∷ xs) m i =
    ⊎_elim (λ j. let p = of_node x n (networks x.mask) m j in (x, here, p.0, p.2))
    (λ j. let p = met_of (n + 1) xs m j in (p.0, there p.1, p.2, p.3))
    (in_append m (map (meeting x n) (networks x.mask)) (meetings (n + 1) xs) i)

node_low : (n : ℕ) (xs : List Met) (m : Meeting) → In m (meetings n xs) → n ≤ m.node
node_low n [] m i = elim i [ ]
node_low n (x ∷ xs) m i =
    ⊎_elim (λ j. omega (arith, (of_node x n (networks x.mask) m j).1)) (λ j. omega (arith, node_low (n + 1) xs m j))
    (in_append m (map (meeting x n) (networks x.mask)) (meetings (n + 1) xs) i)

pub one_node :
    (n : ℕ) (xs : List Met) (m k : Meeting) → In m (meetings n xs) → In k (meetings n xs) → m.node ≡ k.node
    → (m.uuid ≡ k.uuid) × (m.way ≡ k.way)
one_node n [] m k i j e = elim i [ ]
one_node n (x ∷ xs) m k i j e =
    let mine = map (meeting x n) (networks x.mask) in
    let rest = meetings (n + 1) xs in
    ⊎_elim
    (λ a.
    let p = of_node x n (networks x.mask) m a in
    ⊎_elim
    (λ b.
    let q = of_node x n (networks x.mask) k b in
    (p.0 ∙ sym q.0, p.2 ∙ sym q.2))
    (λ b. absurd (let z : ⊥ = omega (arith, p.1, node_low (n + 1) xs k b) in z)) (in_append k mine rest j))
    (λ a.
    ⊎_elim
    (λ b. absurd (let z : ⊥ = omega (arith, (of_node x n (networks x.mask) k b).1, node_low (n + 1) xs m a) in z))
    (λ b. one_node (n + 1) xs m k a b e) (in_append k mine rest j))
    (in_append m mine rest i)

-- rows of one node, and rows of one consist
pub record Together (rs : List Row) : Type 0 where
  pub one_node : (r s : Row) → In r rs → In s rs → r.node ≡ s.node → (r.uuid ≡ s.uuid) × (r.way ≡ s.way)
  pub one_way : (r s : Row) → In r rs → In s rs → r.uuid ≡ s.uuid → r.way ≡ s.way

together : (xs : List Met) → OneWay xs → (n : ℕ) → Together (take n (rows_met xs))
together xs way n =
    let ms = meetings 1 xs in
    let of : (r : Row) → In r (take n (rows_met xs)) → ComesOf r ms = λ r i. comes_of [] ms r (in_take r n (rows_met xs) i) in
    record {
      one_node =
          λ r s i j e.
          let a = of r i in
          let b = of s j in
          let p = one_node 1 xs a.meeting b.meeting a.is_in b.is_in (sym a.node ∙ e ∙ b.node) in
          (a.uuid ∙ p.0 ∙ sym b.uuid, a.way ∙ p.1 ∙ sym b.way);
      one_way =
          λ r s i j e.
          let a = of r i in
          let b = of s j in
          let x = met_of 1 xs a.meeting a.is_in in
          let y = met_of 1 xs b.meeting b.is_in in
          let same = way x.0 y.0 x.1 y.1 (sym x.2 ∙ sym a.uuid ∙ e ∙ b.uuid ∙ y.2) in
          a.way ∙ x.3 ∙ same ∙ sym y.3 ∙ sym b.way;
    }

-- The lowest and the highest of a list do not depend on the member that they start from.
pub lowest_le : (b x : ℕ) (xs : List ℕ) → In x xs → lowest b xs ≤ x
lowest_le b x [] i = elim i [ ]
lowest_le b x (y ∷ ys) here = omega (arith, lowest_below (min b y) ys)
lowest_le b x (y ∷ ys) (there i) = lowest_le (min b y) x ys i

pub lowest_is : (b : ℕ) (xs : List ℕ) → (lowest b xs ≡ b) ⊎ In (lowest b xs) xs
lowest_is b [] = inl refl
lowest_is b (y ∷ ys) =
    ⊎_elim
    (λ e.
    ⊎_elim (λ less. let m : min b y ≡ b = omega arith in inl (e ∙ m))
    (λ more. let m : min b y ≡ y = omega arith in inr (subst (λ n. In n (y ∷ ys)) (sym (e ∙ m)) here)) (cases_lt b y))
    (λ i. inr (there i)) (lowest_is (min b y) ys)

lowest_up : (a b : ℕ) (xs : List ℕ) → In b xs → lowest a xs ≤ lowest b xs
lowest_up a b xs i = ⊎_elim (λ e. rw e (lowest_le a b xs i)) (λ j. lowest_le a (lowest b xs) xs j) (lowest_is b xs)

lowest_one : (a b : ℕ) (xs : List ℕ) → In a xs → In b xs → lowest a xs ≡ lowest b xs
lowest_one a b xs i j = omega (arith, lowest_up a b xs j, lowest_up b a xs i)

pub highest_ge : (b x : ℕ) (xs : List ℕ) → In x xs → x ≤ highest b xs
highest_ge b x [] i = elim i [ ]
highest_ge b x (y ∷ ys) here = omega (arith, highest_above (max b y) ys)
highest_ge b x (y ∷ ys) (there i) = highest_ge (max b y) x ys i

pub highest_is : (b : ℕ) (xs : List ℕ) → (highest b xs ≡ b) ⊎ In (highest b xs) xs
highest_is b [] = inl refl
highest_is b (y ∷ ys) =
    ⊎_elim
    (λ e.
    ⊎_elim (λ less. let m : max b y ≡ y = omega arith in inr (subst (λ n. In n (y ∷ ys)) (sym (e ∙ m)) here))
    (λ more. let m : max b y ≡ b = omega arith in inl (e ∙ m)) (cases_lt b y))
    (λ i. inr (there i)) (highest_is (max b y) ys)

highest_down : (a b : ℕ) (xs : List ℕ) → In b xs → highest b xs ≤ highest a xs
highest_down a b xs i = ⊎_elim (λ e. rw e (highest_ge a b xs i)) (λ j. highest_ge a (highest b xs) xs j) (highest_is b xs)

highest_one : (a b : ℕ) (xs : List ℕ) → In a xs → In b xs → highest a xs ≡ highest b xs
highest_one a b xs i j = omega (arith, highest_down a b xs j, highest_down b a xs i)

pub in_nodes : (r : Row) (u : ℕ) (rs : List Row) → In r rs → r.uuid ≡ u → In r.node (nodes_of u rs)
in_nodes r u [] i e = elim i [ ]
in_nodes r u (q ∷ rs) here e =
    let rest = filter (λ r. eqb r.uuid u) rs in
    let kept = cond-true (eqb r.uuid u) (r ∷ rest) rest (eq-eqb r.uuid u e) in
    rw kept here
in_nodes r u (q ∷ rs) (there i) e =
    let rest = filter (λ r. eqb r.uuid u) rs in
    let j = in_nodes r u rs i e in
    elim (eqb q.uuid u) as (λ b. In r.node (map (λ r. r.node) (cond b (q ∷ rest) rest))) [ true ↦ there j | false ↦ j ]

-- Positions.
position_same : (rs : List Row) (r s : Row) → r.uuid ≡ s.uuid → r.node ≡ s.node → r.way ≡ s.way → position_in rs r ≡ position_in rs s
position_same rs r s eu en ew =
    (λ i. position (ew i) (en i) (lowest (en i) (nodes_of (eu i) rs)) (highest (en i) (nodes_of (eu i) rs)))

apart : (w : Way) (n m low high : ℕ) → low ≤ n → low ≤ m → n ≤ high → m ≤ high → position w n low high ≡ position w m low high → n ≡ m
apart forward n m low high a b c d e = omega arith
apart turned n m low high a b c d e = omega arith

-- one position, one node
position_one :
    (rs : List Row) (r s : Row) → In r rs → In s rs → r.uuid ≡ s.uuid → r.way ≡ s.way → position_in rs r ≡ position_in rs s → r.node ≡ s.node
position_one rs r s i j eu ew e =
    let ns = nodes_of r.uuid rs in
    let ri = in_nodes r r.uuid rs i refl in
    let si = in_nodes s r.uuid rs j (sym eu) in
    let low = lowest r.node ns in
    let high = highest r.node ns in
    let there : position_in rs s ≡ position r.way s.node low high =
    (λ k. position (sym ew k) s.node (lowest s.node (nodes_of (sym eu k) rs)) (highest s.node (nodes_of (sym eu k) rs)))
    ∙ (λ k. position r.way s.node (lowest_one s.node r.node ns si ri k) (highest_one s.node r.node ns si ri k))
    in
    apart r.way r.node s.node low high (lowest_le r.node r.node ns ri) (lowest_le r.node s.node ns si)
    (highest_ge r.node r.node ns ri) (highest_ge r.node s.node ns si) (e ∙ there)

pub place_found :
    (n u p : ℕ) (rs : List Row) (r : Row) → find (λ r. eqb r.node n) rs ≡ Some r → r.uuid ≡ u → position_in rs r ≡ p
    → place_of n rs ≡ Some (u, p)
place_found n u p rs r e eu ep = ap (λ o. option_map (λ (r : Row). (r.uuid, position_in rs r)) o) e ∙ (λ k. Some (eu k, ep k))

undo : (rs : List Row) → Together rs → NodesUndo rs
undo rs g = record {
  number_back =
      λ u p n e.
      let f = carried_some (λ (r : Row). (r.uuid, position_in rs r)) (find (λ (r : Row). eqb r.node n) rs) (u, p) e in
      let r = f.0 in
      let i = first_in (λ (r : Row). eqb r.node n) rs r f.1 in
      let eu : r.uuid ≡ u = ap (λ x. x.0) f.2 in
      let ep : position_in rs r ≡ p = ap (λ x. x.1) f.2 in
      let h = first_some (is_at rs u p) rs r i.0
      (and_from (eqb r.uuid u) (eqb (position_in rs r) p) (eq-eqb r.uuid u eu) (eq-eqb (position_in rs r) p ep)) in
      let s = h.0 in
      let j = first_in (is_at rs u p) rs s h.1 in
      let q = and_parts (eqb s.uuid u) (eqb (position_in rs s) p) j.1 in
      let su = eqb-true s.uuid u q.0 ∙ sym eu in
      let sp : position_in rs s ≡ position_in rs r = eqb-true (position_in rs s) p q.1 ∙ sym ep in
      let same : s.node ≡ r.node = position_one rs s r j.0 i.0 su (g.one_way s r j.0 i.0 su) sp in
      ap (λ o. option_map (λ (r : Row). r.node) o) h.1 ∙ ap (λ k. Some k) (same ∙ eqb-true r.node n i.1);
  place_back =
      λ u p n e.
      let f = carried_some (λ (r : Row). r.node) (find (is_at rs u p) rs) n e in
      let r = f.0 in
      let i = first_in (is_at rs u p) rs r f.1 in
      let q = and_parts (eqb r.uuid u) (eqb (position_in rs r) p) i.1 in
      let h = first_some (λ (r : Row). eqb r.node n) rs r i.0 (eq-eqb r.node n f.2) in
      let s = h.0 in
      let j = first_in (λ (r : Row). eqb r.node n) rs s h.1 in
      let en = eqb-true s.node n j.1 ∙ sym f.2 in
      let o = g.one_node s r j.0 i.0 en in
      let eu = o.0 ∙ eqb-true r.uuid u q.0 in
      let ep : position_in rs s ≡ p = position_same rs s r o.0 en o.1 ∙ eqb-true (position_in rs r) p q.1 in
      place_found n u p rs s h.1 eu ep;
}

pub nodes_undo : (xs : List Met) → OneWay xs → NodesUndo (take 128 (rows_met xs))
nodes_undo xs way = undo (take 128 (rows_met xs)) (together xs way 128)
