-- The nodes of a line as its reading meets them. Assumes nothing.
use Rattle.std.proofs.Common.{◌≡◌, ℕ, ◌+◌, ◌≤◌, true, false, cond, not, eqb, ltb, List, [], ◌∷◌, ◌++◌, map, take, sym, refl, ap, ◌∙◌, subst, ⊎_elim, arith}
use Rattle.std.proofs.lemmas.Bool.{cond_both, ne_eqb, not_from_false}
use Rattle.train.specs.Line.{Way, forward, turned, other, masks, Coupled, Line, turn, flip}
use Rattle.train.specs.Truth.{In, here, there}
use Rattle.train.specs.Rules.{Different, uuids, IsConsist, IsLine, networks}
use Rattle.train.specs.Rows.{left, reading, counted, Met, nodes_in, met_in, met, meetings, numbered, rows_met, rows}
use Rattle.directory.specs.declared.row.MetNode.{MetNode}
use Rattle.directory.specs.Meaning.{met_means, serving, rows_from}
use Rattle.directory.specs.Lookups.{OneWay, placeless, NodesUndo}
use Rattle.directory.proofs.Members.{in_append, in_reverse, in_map, into_map, all_in, kept_all}
use Rattle.directory.proofs.NodesUndo.{nodes_undo}

-- A node that is met belongs to a consist of the line.
record Belongs (x : Met) (l : Line) : Type 0 where
  coupled : Coupled
  is_in : In coupled l
  uuid : x.uuid ≡ coupled.consist.uuid
  way : x.way ≡ coupled.way
  mask : In x.mask (masks coupled.consist)

in_counted : (n k m : ℕ) (ms : List ℕ) → In (k, m) (counted n ms) → In m ms
in_counted n k m [] i = elim i [ ]
in_counted n k m (y ∷ ms) here = here
in_counted n k m (y ∷ ms) (there i) = there (in_counted (n + 1) k m ms i)

of_nodes : (u : ℕ) (ms : List ℕ) (w : Way) (x : Met) → In x (nodes_in u ms w) → (x.uuid ≡ u) × (x.way ≡ w) × In x.mask ms
of_nodes u ms w x i =
    let p = in_map (λ (n : ℕ × ℕ). record { uuid = u; position = n.0; mask = n.1; way = w }) x (counted 1 ms) i in (
      ap (λ y. y.uuid) p.2,
      ap (λ y. y.way) p.2,
      subst (λ m. In m ms) (sym (ap (λ y. y.mask) p.2)) (in_counted 1 p.0.0 p.0.1 ms p.1),
    )

pub of_consist : (u : ℕ) (ms : List ℕ) (w : Way) (x : Met) → In x (met_in u ms w) → (x.uuid ≡ u) × (x.way ≡ w) × In x.mask ms
of_consist u ms forward x i = of_nodes u ms forward x i
of_consist u ms turned x i = of_nodes u ms turned x (in_reverse x (nodes_in u ms turned) i)

belongs : (l : Line) (x : Met) → In x (met l) → Belongs x l
belongs [] x i = elim i [ ]
belongs (s ∷ l) x i =
    ⊎_elim
    (λ j.
    let p = of_consist s.consist.uuid (masks s.consist) s.way x j in
    record { coupled = s; is_in = here; uuid = p.0; way = p.1; mask = p.2 })
    (λ j.
    let b = belongs l x j in
    record { coupled = b.coupled; is_in = there b.is_in; uuid = b.uuid; way = b.way; mask = b.mask })
    (in_append x (met_in s.consist.uuid (masks s.consist) s.way) (met l) i)

-- One consist, one way round.
abbrev One : Line → Type 0
One l = (s t : Coupled) → In s l → In t l → s.consist.uuid ≡ t.consist.uuid → s.way ≡ t.way

one_line : (l : Line) → Different (uuids l) → One l
one_line [] d s t i j e = elim i [ ]
one_line (q ∷ l) d s t here here e = refl
one_line (q ∷ l) d s t here (there j) e =
    absurd (all_in (λ y. s.consist.uuid ≡ y → ⊥) t.consist.uuid (uuids l) d.0 (into_map (λ (c : Coupled). c.consist.uuid) t l j) e)
one_line (q ∷ l) d s t (there i) here e =
    absurd (all_in (λ y. t.consist.uuid ≡ y → ⊥) s.consist.uuid (uuids l) d.0 (into_map (λ (c : Coupled). c.consist.uuid) s l i) (sym e))
one_line (q ∷ l) d s t (there i) (there j) e = one_line l d.1 s t i j e

of_flip : (l : Line) (s : Coupled) → In s (flip l) → (t : Coupled) × In t l × (s ≡ turn t)
of_flip l s i = in_map turn s l (in_reverse s (map turn l) i)

one_flip : (l : Line) → One l → One (flip l)
one_flip l o s t i j e =
    let p = of_flip l s i in
    let q = of_flip l t j in
    let same = o p.0 q.0 p.1 q.1 (sym (ap (λ c. c.consist.uuid) p.2) ∙ e ∙ ap (λ c. c.consist.uuid) q.2) in
    ap (λ c. c.way) p.2 ∙ ap other same ∙ sym (ap (λ c. c.way) q.2)

one_reading : (l : Line) → One l → One (reading l)
one_reading [] o = o
one_reading (s ∷ []) o = λ r t i j e. only r i ∙ sym (only t j)
  where
    only : (r : Coupled) → In r (record { consist = s.consist; way = forward } ∷ []) → r.way ≡ forward
    only r here = refl
    only r (there i) = elim i [ ]
one_reading (s ∷ t ∷ l) o =
    let k = s ∷ t ∷ l in
    cond_both (ltb (left k) (left (flip k))) k (flip k) One (λ _. o) (λ _. one_flip k o)

-- Each consist of the reading is one of the line.
abbrev Of : Line → Line → Type 0
Of l k = (s : Coupled) → In s k → (t : Coupled) × In t l × (s.consist ≡ t.consist)

of_reading : (l : Line) → Of l (reading l)
of_reading [] = λ s i. elim i [ ]
of_reading (q ∷ []) = λ s i. (q, here, only s i)
  where
    only : (r : Coupled) → In r (record { consist = q.consist; way = forward } ∷ []) → r.consist ≡ q.consist
    only r here = refl
    only r (there i) = elim i [ ]
of_reading (q ∷ t ∷ l) =
    let k = q ∷ t ∷ l in
    cond_both (ltb (left k) (left (flip k))) k (flip k) (Of k) (λ _ s i. (s, i, refl))
    (λ _ s i. let p = of_flip k s i in (p.0, p.1, ap (λ c. c.consist) p.2))

module _ (l : Line) (is : IsLine l) where
  one_way : OneWay (met (reading l))
  one_way x y i j e =
      let a = belongs (reading l) x i in
      let b = belongs (reading l) y j in
      a.way ∙ one_reading l (one_line l is.own_uuids) a.coupled b.coupled a.is_in b.is_in (sym a.uuid ∙ e ∙ b.uuid)
      ∙ sym b.way

  pub line_undo : NodesUndo (take 128 (rows l))
  line_undo = nodes_undo (met (reading l)) one_way

  -- each node of a line serves a network
  pub mask_range : (x : Met) → In x (met (reading l)) → (1 ≤ x.mask) × (x.mask ≤ 255)
  mask_range x i =
      let a = belongs (reading l) x i in
      let c = of_reading l a.coupled a.is_in in
      let ok = all_in (λ (s : Coupled). IsConsist s.consist) c.0 l is.consists c.1 in
      all_in (λ m. (1 ≤ m) × (m ≤ 255)) x.mask (masks c.0.consist) ok.some_network (subst (λ d. In x.mask (masks d)) c.2 a.mask)

  serving_line : serving (met (reading l)) ≡ met (reading l)
  serving_line =
      kept_all (λ x. not (eqb x.mask 0)) (met (reading l))
      (λ x i. not_from_false (eqb x.mask 0) (ne_eqb x.mask 0 (λ z. let f : ⊥ = omega (arith, (mask_range x i).0) in f)))

-- Rows do not depend on positions.
meetings_placeless : (n : ℕ) (xs : List Met) → meetings n (map placeless xs) ≡ meetings n xs
meetings_placeless n [] = refl
meetings_placeless n (x ∷ xs) =
    ap (λ ms. map (λ c. record { uuid = x.uuid; cn = c; node = n; way = x.way }) (networks x.mask) ++ ms) (meetings_placeless (n + 1) xs)

serving_placeless : (xs : List Met) → serving (map placeless xs) ≡ map placeless (serving xs)
serving_placeless [] = refl
serving_placeless (x ∷ xs) =
    let rest = serving xs in
    elim (not (eqb x.mask 0))
    as (λ b. cond b (placeless x ∷ serving (map placeless xs)) (serving (map placeless xs)) ≡ map placeless (cond b (x ∷ rest) rest)) [
      | true ↦ ap (λ ys. placeless x ∷ ys) (serving_placeless xs)
      | false ↦ serving_placeless xs
    ]

-- the nodes of a line give the rows of the line
pub line_rows :
    (l : Line) (nodes : List MetNode) → IsLine l → map met_means nodes ≡ map placeless (met (reading l)) → rows_from nodes ≡ take 128 (rows l)
line_rows l nodes is e =
    ap (λ xs. take 128 (rows_met (serving xs))) e
    ∙ ap (λ xs. take 128 (rows_met xs)) (serving_placeless (met (reading l)) ∙ ap (map placeless) (serving_line l is))
    ∙ ap (λ ms. take 128 (numbered [] ms)) (meetings_placeless 1 (met (reading l)))
