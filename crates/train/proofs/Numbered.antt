-- How the rows of a line number its nodes and networks. Assumes nothing.
use Rattle.std.proofs.Common.{◌≡◌, ℕ, ◌+◌, ◌≤◌, List, [], ◌∷◌, map, length, sym, refl, ap, ◌∙◌, subst, ap₂, arith}
use Rattle.std.specs.List.{flat_map}
use Rattle.std.proofs.lemmas.List.{length-append, length-map}
use Rattle.report.specs.Masks.{together}
use Rattle.train.specs.Line.{Consist, masks, Coupled, Line}
use Rattle.train.specs.Truth.{In, here, there}
use Rattle.train.specs.Rules.{consist_networks, Different, uuids, IsConsist, IsLine, node_count, network_count}
use Rattle.train.specs.Rows.{reading, met, placed_nodes, Row, rows_met, rows}
use Rattle.train.specs.Numbers.{RunsTo}
use Rattle.train.specs.Theorems.{NumberedLine, PlacedLine, Numbered}
use Rattle.train.proofs.Members.{in_map, of_map, in_joined, of_joined, all_in, counted_in, some_count, one_element, one_count, different_map}
use Rattle.train.proofs.Networks.{networks_different, networks_run, together_below, networks_in_together, networks_of_together}
use Rattle.train.proofs.Reading.{reading_is_line, in_reading, of_reading_in}
use Rattle.train.proofs.Totals.{total_reading}
use Rattle.train.proofs.Climbing.{rising_climbs}
use Rattle.train.proofs.Meetings.{row_node, network_row, node_row, nodes_run, nodes_rise}
use Rattle.train.proofs.Subnets.{key, subnets_climb, one_network, one_subnet, subnets_run}
use Rattle.train.proofs.Places.{met_of_consist, met_of, node_at, node_met, masked, different_joined, own_places, nodes_read, some_node, position_met, met_position}

-- networks by UUID and number
abbrev networks_of : Coupled → List (ℕ × ℕ)
networks_of s = map (λ c. (s.consist.uuid, c)) (consist_networks s.consist)

abbrev all_networks : Line → List (ℕ × ℕ)
all_networks l = flat_map networks_of l

all_networks_length : (l : Line) → length (all_networks l) ≡ network_count l
all_networks_length [] = refl
all_networks_length (s ∷ l) = length-append (networks_of s) (all_networks l) ∙ ap₂ ◌+◌ (length-map (consist_networks s.consist) _) (all_networks_length l)

all_networks_differ : (l : Line) → Different (uuids l) → Different (all_networks l)
all_networks_differ l d = different_joined networks_of
    (λ s. different_map (λ c. (s.consist.uuid, c)) (λ i j e. ap (λ p. p.1) e) (consist_networks s.consist) (networks_different (together (masks s.consist))))
    (λ s p i. ap (λ q. q.0) (of_map (λ c. (s.consist.uuid, c)) p (consist_networks s.consist) i).2) l d

-- the rows are those of the line's networks
row_consist : (l : Line) (r : Row) → In r (rows_met (met l)) → (s : Coupled) × In s l × (r.uuid ≡ s.consist.uuid) × In r.cn (consist_networks s.consist)
row_consist l r i =
    let x = row_node (met l) r i in
    let s = of_joined met_of x.0 l (counted_in 1 r.node x.0 (met l) x.1) in
    let c = s.0.consist in
    let m = met_of_consist c.uuid (masks c) s.0.way x.0 s.2 in
    (s.0, s.1, x.3 ∙ m.0, networks_in_together (masks c) x.0.mask r.cn m.1 x.2)

row_network : (l : Line) (r : Row) → In r (rows_met (met l)) → In (key r) (all_networks l)
row_network l r i =
    let s = row_consist l r i in
    let u = s.0.consist.uuid in
    in_joined networks_of s.0 (key r) l s.1
    (subst (λ v. In (v, r.cn) (networks_of s.0)) (sym s.2) (in_map (λ n. (u, n)) r.cn (consist_networks s.0.consist) s.3))

network_has_row : (l : Line) (s : Coupled) (n : ℕ) → In s l → In n (consist_networks s.consist)
    → (r : Row) × In r (rows_met (met l)) × (key r ≡ (s.consist.uuid, n))
network_has_row l s n i j =
    let m = networks_of_together (masks s.consist) n j in
    let p = some_count m.0 1 (masks s.consist) m.1 in
    let x = node_at s.consist.uuid s.way (p.0, m.0) in
    let k = some_count x 1 (met l) (node_met l s p.0 m.0 i p.1) in
    let r = network_row (met l) k.0 n x k.1 m.2 in
    (r.0, r.1, λ t. (r.4 t, r.3 t))

a_row_for : (l : Line) (k : ℕ × ℕ) → In k (all_networks l) → (r : Row) × In r (rows_met (met l)) × (key r ≡ k)
a_row_for l k i =
    let s = of_joined networks_of k l i in
    let n = of_map (λ j. (s.0.consist.uuid, j)) k (consist_networks s.0.consist) s.2 in
    let r = network_has_row l s.0 n.0 s.1 n.1 in
    (r.0, r.1, subst (λ p. key r.0 ≡ p) (sym n.2) r.2)

some_member : {A : Type 0} (x : A) (xs : List A) → In x xs → 1 ≤ length xs
some_member x xs here = omega arith
some_member x xs (there i) = omega arith

pub numbered_line : (l : Line) → IsLine l → NumberedLine l
numbered_line l h =
    let k = reading l in
    let is = reading_is_line l h in
    let ms = masked k is.consists in
    let ns : RunsTo (node_count l) (map (λ r. r.node) (rows l)) = subst (λ n. RunsTo n (map (λ r. r.node) (rows l))) (nodes_read l) (nodes_run (met k) ms) in
    record {
      some_row =
          let i = ns.each 1 (omega arith) (some_node l h.some_consist h.consists) in
          let r = of_map (λ q. q.node) 1 (rows l) i in some_member r.0 (rows l) r.1;
      nodes = ns;
      nodes_rise = nodes_rise (met k);
      nodes_climb = rising_climbs 0 (map (λ r. r.node) (rows l)) (nodes_rise (met k)) (λ x i. ((ns.between x i).0, omega arith))
          (λ x y i a b. ns.each x (omega arith) (omega (arith, (ns.between y i).1)));
      node_row = node_row (met k) ms;
      network_row = network_row (met k);
      row_node = row_node (met k);
      subnets = subst (λ n. RunsTo n (map (λ r. r.subnet) (rows l))) (all_networks_length k ∙ total_reading _ l)
          (subnets_run (met k) (all_networks k) (all_networks_differ k is.own_uuids) (row_network k) (a_row_for k));
      subnets_climb = subnets_climb (met k);
      one_network = one_network (met k);
      one_subnet = one_subnet (met k);
    }

consist_run : (c : Consist) → IsConsist c → RunsTo (length (consist_networks c)) (consist_networks c)
consist_run c h = networks_run (together (masks c)) (omega (arith, together_below (masks c) h.some_network)) h.no_gap

pub placed_line : (l : Line) → IsLine l → PlacedLine l
placed_line l h =
    let k = reading l in
    let d = own_places k (reading_is_line l h).own_uuids in
    record {
      one_place = λ n p q i j. one_element 1 n p q (placed_nodes l) i j;
      one_number = λ i j p a b. one_count 1 i j p (placed_nodes l) d a b;
      own_places = d;
      placed = λ s p i a b.
          let t = in_reading l s i in
          subst (λ c. In (c.uuid, p) (placed_nodes l)) t.2 (position_met k t.0 p t.1 a (subst (λ c. p ≤ length c.nodes) (sym t.2) b));
      of_consist = λ u p i.
          let t = met_position k u p i in
          let s = of_reading_in l t.0 t.1 in
          (s.0, s.1, t.2 ∙ ap (λ c. c.uuid) s.2, t.3, subst (λ c. p ≤ length c.nodes) s.2 t.4);
      networks_run = λ s i. consist_run s.consist (all_in (λ t. IsConsist t.consist) s l i h.consists);
      has_row = λ s n i j.
          let t = in_reading l s i in
          let r = network_has_row k t.0 n t.1 (subst (λ c. In n (consist_networks c)) (sym t.2) j) in
          (r.0, r.1, ap (λ q. q.0) r.2 ∙ ap (λ c. c.uuid) t.2, ap (λ q. q.1) r.2);
      row_of = λ r i.
          let t = row_consist k r i in
          let s = of_reading_in l t.0 t.1 in
          (s.0, s.1, t.2 ∙ ap (λ c. c.uuid) s.2, subst (λ c. In r.cn (consist_networks c)) s.2 t.3);
    }

pub numbered : Numbered
numbered l h = (numbered_line l h, placed_line l h)
