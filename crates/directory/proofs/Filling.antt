-- What the loops of `fill` keep. Assumes nothing.
use Rattle.std.proofs.Common.{◌≡◌, ℕ, ◌+◌, ◌<◌, ◌≤◌, max, true, false, cond, not, eqb, List, [], ◌∷◌, ◌++◌, map, length, get_or, take, drop, set, Some, None, sym, ap, ◌∙◌, ⊎_elim, arith}
use Rattle.std.proofs.lemmas.List.{take_more_set, get_or-take, length-set, length-take-le, length-map, map_push, at_drop_more, at_drop_all, take_all, take_at}
use Rattle.std.proofs.lemmas.Simd.{map-map}
use Rattle.std.proofs.lemmas.Bool.{cond-true, cond-false, eq-eqb, ne_eqb, both_ways, cases_lt, not_from_true, not_from_false}
use Rattle.report.specs.Masks.{serves}
use Rattle.train.specs.Numbers.{climbs}
use Rattle.train.specs.Rows.{Met, Meeting, meetings, Row, row, given, numbered, rows_met}
use Rattle.directory.specs.declared.row.Row as code
use Rattle.directory.specs.declared.row.MetNode.{MetNode}
use Rattle.directory.specs.declared.row.Way.TheVariants.{Forward}
use Rattle.directory.specs.Meaning.{blank, row_means, rows_mean, met_means, meeting, serving}
use Rattle.directory.specs.Asked.{highest}
use Rattle.directory.proofs.Climbs.{highest_push, climbs_push, climbs_few}
use Rattle.directory.proofs.Subnets.{or_next, is_for, Filled, given_within, filled_push, filled_left, filled_all}
use Rattle.directory.proofs.Networks.{served, served_on, served_off, served_all, serves_some}

abbrev pub nodes : List Row → List ℕ
nodes rs = map (λ r. r.node) rs

-- the highest node number so far
abbrev pub high : List code.Row → ℕ → ℕ
high rows count = highest 0 (nodes (rows_mean (take count rows)))

pub record Held (rows : List code.Row) (count top : ℕ) (left : List Meeting) (all : List Row) : Type 0 where
  pub long : length rows ≡ 128
  pub few : count ≤ 128
  pub nodes_run : climbs 0 (nodes (rows_mean (take count rows))) ≡ true
  pub filled : Filled (rows_mean (take count rows)) top left all

pub counted : (rows : List code.Row) (count : ℕ) → count ≤ length rows → length (rows_mean (take count rows)) ≡ count
counted rows count few = length-map (take count rows) row_means ∙ length-take-le count rows few

-- no number is above the count
pub high_few : (rows : List code.Row) (count top : ℕ) (left : List Meeting) (all : List Row) → Held rows count top left all → high rows count ≤ count
high_few rows count top left all h =
    let rs = rows_mean (take count rows) in
    let n = counted rows count (omega (arith, h.long, h.few)) in
    omega (arith, climbs_few 0 (nodes rs) h.nodes_run, length-map rs (λ (r : Row). r.node))

pub top_few : (rows : List code.Row) (count top : ℕ) (left : List Meeting) (all : List Row) → Held rows count top left all → top ≤ count
top_few rows count top left all h =
    let rs = rows_mean (take count rows) in
    let n = counted rows count (omega (arith, h.long, h.few)) in
    omega (arith, climbs_few 0 (map (λ r. r.subnet) rs) h.filled.subnets_run, h.filled.top_is, length-map rs (λ (r : Row). r.subnet))

pub held_left :
    (rows : List code.Row) (count top : ℕ) (left left' : List Meeting) (all : List Row) → left ≡ left' → Held rows count top left all → Held rows count top left' all
held_left rows count top left left' all e h =
    record { long = h.long; few = h.few; nodes_run = h.nodes_run; filled = filled_left (rows_mean (take count rows)) top left left' all e h.filled }

module _
    (rows : List code.Row) (count top : ℕ) (m : Meeting) (left : List Meeting) (all : List Row) (r : code.Row) (s : ℕ)
    (h : Held rows count top (m ∷ left) all) (room : count < 128) (is : row_means r ≡ row m s)
  where
    pushed : rows_mean (take (count + 1) (set rows count r)) ≡ rows_mean (take count rows) ++ row m s ∷ []
    pushed =
        ap rows_mean (take_more_set rows count r (omega (arith, h.long))) ∙ map_push row_means (take count rows) r
        ∙ ap (λ x. rows_mean (take count rows) ++ x ∷ []) is

    nodes_pushed : nodes (rows_mean (take (count + 1) (set rows count r))) ≡ nodes (rows_mean (take count rows)) ++ m.node ∷ []
    nodes_pushed = ap nodes pushed ∙ map_push (λ (x : Row). x.node) (rows_mean (take count rows)) (row m s)

    pub high_push : high (set rows count r) (count + 1) ≡ max (high rows count) m.node
    high_push = ap (λ xs. highest 0 xs) nodes_pushed ∙ highest_push 0 (nodes (rows_mean (take count rows))) m.node

    -- one row more
    pub held_push :
        s ≡ or_next top (given m.uuid m.cn (rows_mean (take count rows))) → 1 ≤ m.node → m.node ≤ high rows count + 1
        → Held (set rows count r) (count + 1) (max top s) left all
    held_push gives one next = record {
      long = length-set rows count r ∙ h.long;
      few = omega arith;
      nodes_run = rw nodes_pushed (climbs_push 0 (nodes (rows_mean (take count rows))) m.node h.nodes_run one next);
      filled = rw pushed (filled_push (rows_mean (take count rows)) top m left all s h.filled gives);
    }

-- the meetings that are left at network n of node x, the nodes xs behind it
abbrev pub left_at : Met → List Met → ℕ → ℕ → List Meeting
left_at x xs number n = map (meeting x number) (served x.mask n) ++ meetings (number + 1) xs

-- at network n of node x
pub record Turn (x : Met) (xs : List Met) (all : List Row) (number n : ℕ) (rows : List code.Row) (count top : ℕ) : Type 0 where
  pub held : Held rows count top (left_at x xs number n) all
  pub one : 1 ≤ number
  pub next : number ≤ high rows count + 1
  pub most : high rows count ≤ number
  pub reached : (j : ℕ) → 1 ≤ j → j < n → serves x.mask j ≡ true → high rows count ≡ number

module _ (x : Met) (xs : List Met) (all : List Row) (number n : ℕ) (rows : List code.Row) (count top : ℕ) (t : Turn x xs all number n rows count top) where
  -- a network that the node does not serve
  pub turn_not : n ≤ 8 → serves x.mask n ≡ false → Turn x xs all number (n + 1) rows count top
  turn_not few off = record {
    held =
        held_left rows count top (left_at x xs number n) (left_at x xs number (n + 1)) all
        (ap (λ ns. map (meeting x number) ns ++ meetings (number + 1) xs) (served_off x.mask n few off)) t.held;
    one = t.one;
    next = t.next;
    most = t.most;
    reached =
        λ j first past on.
        ⊎_elim (λ before. t.reached j first before on)
        (λ here. let e : j ≡ n = omega arith in absurd (both_ways (serves x.mask n) off (rw e at on))) (cases_lt j n);
  }

  -- one that it serves
  pub turn_put :
      (r : code.Row) (s : ℕ) → n ≤ 8 → serves x.mask n ≡ true → count < 128 → row_means r ≡ row (meeting x number n) s
      → s ≡ or_next top (given x.uuid n (rows_mean (take count rows)))
      → Turn x xs all number (n + 1) (set rows count r) (count + 1) (max top s)
  turn_put r s few on room is gives =
      let m = meeting x number n in
      let h : Held rows count top (m ∷ left_at x xs number (n + 1)) all =
      held_left rows count top (left_at x xs number n) (m ∷ left_at x xs number (n + 1)) all
      (ap (λ ns. map (meeting x number) ns ++ meetings (number + 1) xs) (served_on x.mask n few on)) t.held
      in
      let up = high_push rows count top m (left_at x xs number (n + 1)) all r s h room is in
      let top_now : high (set rows count r) (count + 1) ≡ number = omega (arith, t.most) in
      record {
        held = held_push rows count top m (left_at x xs number (n + 1)) all r s h room is gives t.one t.next;
        one = t.one;
        next = omega arith;
        most = omega arith;
        reached = λ j _ _ _. top_now;
      }

abbrev pub no_node : MetNode
no_node = record { uuid = record { high = 0; low = 0 }; mask = 0; way = Forward }

-- the nodes from place i on that serve a network
abbrev pub behind : List MetNode → ℕ → List Met
behind ns i = serving (map met_means (drop i ns))

pub record Round (ns : List MetNode) (i number : ℕ) (rows : List code.Row) (count top : ℕ) : Type 0 where
  pub held : Held rows count top (meetings (number + 1) (behind ns i)) (rows_met (behind ns 0))
  pub number_is : high rows count ≡ number

module _ (ns : List MetNode) (i number : ℕ) (rows : List code.Row) (count top : ℕ) (r : Round ns i number rows count top) where
  -- a node that serves no network
  pub round_not : i < length ns → (get_or ns i no_node).mask ≡ 0 → Round ns (i + 1) number rows count top
  round_not there off =
      let n = get_or ns i no_node in
      let e : behind ns i ≡ behind ns (i + 1) =
      at_drop_more (λ xs. serving (map met_means xs)) ns i no_node there
      ∙ cond-false (not (eqb n.mask 0)) (met_means n ∷ behind ns (i + 1)) (behind ns (i + 1))
      (not_from_true (eqb n.mask 0) (eq-eqb n.mask 0 off))
      in
      record { held = rw (sym e) r.held; number_is = r.number_is }

  -- one that does
  pub round_begins :
      i < length ns → ((get_or ns i no_node).mask ≡ 0 → ⊥)
      → Turn (met_means (get_or ns i no_node)) (behind ns (i + 1)) (rows_met (behind ns 0)) (number + 1) 1 rows count top
  round_begins there on =
      let n = get_or ns i no_node in
      let e : behind ns i ≡ met_means n ∷ behind ns (i + 1) =
      at_drop_more (λ xs. serving (map met_means xs)) ns i no_node there
      ∙ cond-true (not (eqb n.mask 0)) (met_means n ∷ behind ns (i + 1)) (behind ns (i + 1))
      (not_from_false (eqb n.mask 0) (ne_eqb n.mask 0 on))
      in
      record {
        held =
            held_left rows count top (meetings (number + 1) (behind ns i)) (left_at (met_means n) (behind ns (i + 1)) (number + 1) 1) (rows_met (behind ns 0))
            (ap (λ xs. meetings (number + 1) xs) e) r.held;
        one = omega arith;
        next = omega (arith, r.number_is);
        most = omega (arith, r.number_is);
        reached = λ j one none _. absurd (let z : ⊥ = omega arith in z);
      }

  pub round_all : length ns ≤ i → rows_mean (take count rows) ≡ take 128 (rows_met (behind ns 0))
  round_all past =
      let none : behind ns i ≡ [] = at_drop_all (λ xs. serving (map met_means xs)) ns i past in
      let h = held_left rows count top (meetings (number + 1) (behind ns i)) [] (rows_met (behind ns 0)) (ap (λ xs. meetings (number + 1) xs) none) r.held in
      let n = counted rows count (omega (arith, r.held.long, r.held.few)) in
      sym (take_all 128 (rows_mean (take count rows)) (omega (arith, r.held.few)))
      ∙ ap (λ rs. take 128 rs) (filled_all (rows_mean (take count rows)) top (rows_met (behind ns 0)) h.filled)

-- the last network of a node is past
pub round_ends :
    (ns : List MetNode) (i number n : ℕ) (rows : List code.Row) (count top : ℕ)
    → Turn (met_means (get_or ns i no_node)) (behind ns (i + 1)) (rows_met (behind ns 0)) number n rows count top
    → 9 ≤ n → n ≤ 9 → (get_or ns i no_node).mask < 256 → ((get_or ns i no_node).mask ≡ 0 → ⊥) → Round ns (i + 1) number rows count top
round_ends ns i number n rows count top t past last byte on =
    let x = met_means (get_or ns i no_node) in
    record {
      held =
          held_left rows count top (left_at x (behind ns (i + 1)) number n) (meetings (number + 1) (behind ns (i + 1))) (rows_met (behind ns 0))
          (ap (λ cs. map (meeting x number) cs ++ meetings (number + 1) (behind ns (i + 1))) (served_all x.mask n past)) t.held;
      number_is = serves_some x.mask (high rows count ≡ number) byte on (λ j one few e. t.reached j one (omega arith) e);
    }

-- the search for a subnet, one row on
module _ (u n k count : ℕ) (rows : List code.Row) (long : length rows ≡ 128) (few : count ≤ 128) where
  look_more :
      k < count
      → given u n (rows_mean (drop k (take count rows)))
      ≡ cond (is_for u n (row_means (get_or rows k blank))) (Some (get_or rows k blank).subnet) (given u n (rows_mean (drop (k + 1) (take count rows))))
  look_more there =
      let len = length-take-le count rows (omega arith) in
      at_drop_more (λ xs. given u n (rows_mean xs)) (take count rows) k blank (omega arith)
      ∙ ap (λ r. cond (is_for u n (row_means r)) (Some r.subnet) (given u n (rows_mean (drop (k + 1) (take count rows)))))
      (get_or-take count rows k blank there)

  pub look_past :
      k < count → false ≡ is_for u n (row_means (get_or rows k blank))
      → given u n (rows_mean (drop (k + 1) (take count rows))) ≡ given u n (rows_mean (drop k (take count rows)))
  look_past there off =
      sym (look_more there
      ∙ cond-false (is_for u n (row_means (get_or rows k blank))) (Some (get_or rows k blank).subnet) (given u n (rows_mean (drop (k + 1) (take count rows)))) (sym off))

  pub look_found :
      k < count → true ≡ is_for u n (row_means (get_or rows k blank))
      → given u n (rows_mean (drop k (take count rows))) ≡ Some (get_or rows k blank).subnet
  look_found there on =
      look_more there
      ∙ cond-true (is_for u n (row_means (get_or rows k blank))) (Some (get_or rows k blank).subnet) (given u n (rows_mean (drop (k + 1) (take count rows)))) (sym on)

  pub look_none : count ≤ k → given u n (rows_mean (drop k (take count rows))) ≡ None
  look_none past =
      let len = length-take-le count rows (omega arith) in
      at_drop_all (λ xs. given u n (rows_mean xs)) (take count rows) k (omega arith)

-- a subnet that was given is not above the highest
pub given_low :
    (rows : List code.Row) (count top : ℕ) (left : List Meeting) (all : List Row) (u n s : ℕ) → Held rows count top left all
    → given u n (rows_mean (take count rows)) ≡ Some s → s ≤ top
given_low rows count top left all u n s h e =
    omega (arith, given_within u n s 0 (rows_mean (take count rows)) h.filled.subnets_run e, h.filled.top_is)

-- the rows are full
pub held_full :
    (rows : List code.Row) (count top : ℕ) (left : List Meeting) (all : List Row) → Held rows count top left all → count ≡ 128
    → rows_mean (take count rows) ≡ take 128 all
held_full rows count top left all h full =
    let rs = rows_mean (take count rows) in
    let n = counted rows count (omega (arith, h.long, h.few)) in
    sym (take_at rs (numbered h.filled.firsts left) 128 (n ∙ full)) ∙ ap (λ xs. take 128 xs) h.filled.goes_on

-- the numbers of the code's rows
pub nodes_run :
    (rows : List code.Row) (count top : ℕ) (left : List Meeting) (all : List Row) → Held rows count top left all
    → climbs 0 (map (λ r. r.node) (take count rows)) ≡ true
nodes_run rows count top left all h = ap (λ xs. climbs 0 xs) (sym (map-map (λ (r : Row). r.node) row_means (take count rows))) ∙ h.nodes_run

pub subnets_run :
    (rows : List code.Row) (count top : ℕ) (left : List Meeting) (all : List Row) → Held rows count top left all
    → climbs 0 (map (λ r. r.subnet) (take count rows)) ≡ true
subnets_run rows count top left all h =
    ap (λ xs. climbs 0 xs) (sym (map-map (λ (r : Row). r.subnet) row_means (take count rows))) ∙ h.filled.subnets_run
